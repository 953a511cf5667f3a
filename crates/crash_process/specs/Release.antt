-- The release of a Linux system, by the keys of lsb-release or of os-release.
use Rattle.std.specs.Prelude.{ℕ, ◌-◌, ◌==◌, ◌||◌, ◌&&◌, Bool, List, bytes_eq, codes, find, length, nat_le}
use Rattle.std.specs.Prelude.{slice_index, slice_range, Option, Result, if◌then◌else◌, string_bytes}
use Rattle.std.specs.Option.{option_map}
use Rattle.std.specs.Result.{result_ok}
use Rattle.std.specs.Str.Lossy.{utf8_lossy}
use Rattle.minidump.specs.declared.Error.{Error}
use Rattle.minidump.specs.Below.Records.Pairs.{pairs_of}
use Rattle.crash_process.specs.declared.linux.LsbRelease.{LsbRelease}

-- a release: its distribution, its number, its codename and its description, where it says them
pub record ReleaseValue : Type 0 where
  pub id : Option (List ℕ)
  pub release : Option (List ℕ)
  pub codename : Option (List ℕ)
  pub description : Option (List ℕ)

-- the same of an `LsbRelease`
abbrev pub release_of : LsbRelease → ReleaseValue
release_of r = record {
  id = option_map string_bytes r.id;
  release = option_map string_bytes r.release;
  codename = option_map string_bytes r.codename;
  description = option_map string_bytes r.description;
}

-- the value of the first pair that has one of two keys
abbrev pub first_value : List (List ℕ × List ℕ) → List ℕ → List ℕ → Option (List ℕ)
first_value pairs key other = option_map (λ p. p.1)
    (find (λ p. bytes_eq p.0 key || bytes_eq p.0 other) pairs)

-- a value has two bytes or more, and a single quote at each end
abbrev pub is_single_quoted : List ℕ → Bool
is_single_quoted value = nat_le 2 (length value)
    && (slice_index value 0 == 0x27 && slice_index value (length value - 1) == 0x27)

-- a value without the single quotes at its ends, where it has both. os-release(5) allows them as well as double
-- ones, which the value of a pair doesn't have
unfoldable pub without_single_quotes : List ℕ → List ℕ
without_single_quotes value = if is_single_quoted value then slice_range value 1 (length value - 1) else value

-- the value of the first pair of a text that has one of two keys, without single quotes, and with U+FFFD for what
-- isn't UTF-8
abbrev pub text_value : List ℕ → List ℕ → List ℕ → Option (List ℕ)
text_value text key other = option_map (λ value. utf8_lossy (without_single_quotes value))
    (first_value (pairs_of 0x3d text) key other)

-- the release of the text of a stream, where that can be read: each value by its key in lsb-release, or by that in
-- os-release
abbrev pub release_in : Result (List ℕ) Error → Option ReleaseValue
release_in found = option_map (λ text. record {
  id = text_value text (codes "DISTRIB_ID") (codes "ID");
  release = text_value text (codes "DISTRIB_RELEASE") (codes "VERSION_ID");
  codename = text_value text (codes "DISTRIB_CODENAME") (codes "VERSION_CODENAME");
  description = text_value text (codes "DISTRIB_DESCRIPTION") (codes "PRETTY_NAME");
}) (result_ok found)
