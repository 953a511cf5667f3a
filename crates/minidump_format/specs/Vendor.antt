-- The vendors of the types of stream. The numbers up to 0xffff are Microsoft's. The high half of a
-- number may be two letters that name its vendor: `Gg`, `CP`, `Mz`. Others name none, as `Kk` of
-- Chromium's StabilityReportStream.
use Rattle.std.specs.Prelude.{ℕ, ◌/◌, ◌^◌, List, codes, nat_le, ◌==◌, if◌then◌else◌}

-- the vendor of two letters, the high half of a type
abbrev by_letters : ℕ → List ℕ
by_letters high =
    if high == 0x4767 then codes "Google Extension" else (
    if high == 0x4350 then codes "Crashpad Extension" else (
    if high == 0x4d7a then codes "Mozilla Extension" else codes "Unknown Extension"))

-- the vendor of a type of stream
abbrev pub vendor_of : ℕ → List ℕ
vendor_of n = if nat_le n 0xffff then codes "Official" else by_letters (n / 2 ^ 16)
