-- Which numbers are addresses, and which bits of a return address or a saved frame pointer are one.
use Rattle.std.specs.Prelude.{ℕ, ◌+◌, ◌/◌, ◌%◌, ◌^◌, ◌==◌, max, nat_lt, Bool, List, map, Option, Some, None}
use Rattle.std.specs.Prelude.{if◌then◌else◌}
use Rattle.std.specs.List.{fold}
use Rattle.minidump.specs.declared.system_info.Cpu.{Cpu}
use Rattle.minidump.specs.declared.system_info.Cpu.TheVariants as cpu
use Rattle.minidump.specs.declared.system_info.Os.{Os}
use Rattle.minidump.specs.declared.system_info.Os.TheVariants.{Ios, MacOs, Windows}
use Rattle.minidump.specs.declared.system_info.PointerWidth.{PointerWidth}
use Rattle.minidump.specs.declared.system_info.PointerWidth.TheVariants.{Bits32, Bits64, Unknown}
use Rattle.minidump.specs.Below.Index.Digits.{digits}
use Rattle.minidump.specs.Below.Index.Lookup.{last_address}
use Rattle.minidump.specs.Below.Modules.Module.{ModuleValue, range_of_module}

-- whether a number is an address: one has 32 or 64 bits, and at most 64 where the width is unknown
abbrev pub is_address : PointerWidth → ℕ → Bool
is_address Bits32 number = nat_lt number (2 ^ 32)
is_address Bits64 number = nat_lt number (2 ^ 64)
is_address Unknown number = nat_lt number (2 ^ 64)

-- the address so many bytes after another, if there is one
unfoldable pub address_after : PointerWidth → ℕ → ℕ → Option ℕ
address_after width address size =
    if is_address width (address + size) then Some (address + size) else None

-- the last address of a module: 0 if it has none, or one beyond the spaces of addresses that
-- systems give a process of ARM64 today, of at most 52 bits
abbrev pub last_of_module : ModuleValue → ℕ
last_of_module m = if nat_lt (last_address range_of_module m) (2 ^ 52)
    then last_address range_of_module m else 0

-- the last address of all modules, or 0 if none has one
abbrev pub last_code : List ModuleValue → ℕ
last_code modules = fold max 0 (map last_of_module modules)

-- how many bits the smallest space of addresses of a system has on ARM64: 47 on Windows and macOS,
-- 39 on iOS, and 36 on Linux, as its kernel may be built (CONFIG_ARM64_VA_BITS_36)
abbrev pub least_bits : Os → ℕ
least_bits Windows = 47
least_bits MacOs = 47
least_bits Ios = 39
least_bits _ = 36

-- how many of the low bits of a return address are its address. ARM64 may sign a return address, by
-- bits above those of its space of addresses. These are as many as the smallest of the system has,
-- or as the last address of all modules. Other processors sign none
abbrev pub code_bits : Os → Cpu → List ModuleValue → ℕ
code_bits os cpu.Arm64 modules = max (least_bits os) (digits (last_code modules))
code_bits os _ modules = 64

-- whether a word is an address of the upper half, the kernel's: bit 55 tells the halves of the
-- addresses of ARM64 apart, and no signature changes it
abbrev pub is_in_upper_half : ℕ → Bool
is_in_upper_half word = word / 2 ^ 55 % 2 == 1

-- the address of a return address that may be signed: so many low bits of it. One of the upper
-- half, which no process has, stays as it is
abbrev pub unsigned : ℕ → ℕ → ℕ
unsigned bits word = if is_in_upper_half word then word else word % 2 ^ bits

-- a frame pointer without the mark of Swift: on Apple's systems of 64 bits an async function sets
-- bit 60 of the one that it saves. A word whose bits from 60 up are anything else has no mark, and
-- stays as it is. The system and the processor don't matter: no address of a process has bit 60
-- alone of these four bits, and a word of 32 bits has none of them
abbrev pub unmarked : ℕ → ℕ
unmarked word = if word / 2 ^ 60 == 1 then word % 2 ^ 60 else word
