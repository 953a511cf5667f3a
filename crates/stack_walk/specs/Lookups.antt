-- The address by which a frame is looked up, the module that contains an address, and whether the
-- memory there may be run and a call may end there.
use Rattle.std.specs.Prelude.{ℕ, ◌+◌, ◌-◌, ◌/◌, ◌%◌, ◌==◌, ◌&&◌, ◌||◌, Bool, true, false, is_some}
use Rattle.std.specs.Prelude.{nat_le, nat_lt, length, List, [], ◌∷◌, Option, Some, None, slice_range}
use Rattle.std.specs.Prelude.{if◌then◌else◌, not}
use Rattle.std.specs.List.{enumerate_from}
use Rattle.std.specs.Option.{option_and_then, option_map, option_map_or}
use Rattle.minidump.specs.declared.system_info.Cpu.{Cpu}
use Rattle.minidump.specs.declared.system_info.Cpu.TheVariants as cpu
use Rattle.minidump.specs.Below.Index.Lookup.{looked_up}
use Rattle.minidump.specs.Below.MemoryLists.Memory.{range_of_region}
use Rattle.minidump.specs.Below.MemoryLists.Unified.{UnifiedRegions, unified_regions}
use Rattle.minidump.specs.Below.MemoryLists.UnifiedInfo.{InfoRegion, OfInfo, OfMaps}
use Rattle.minidump.specs.Below.MemoryLists.UnifiedInfo.{range_of_info_region, region_is_executable}
use Rattle.minidump.specs.Below.MemoryLists.UnifiedInfo.{region_is_writable}
use Rattle.minidump.specs.Below.Modules.Module.{ModuleValue, range_of_module}
use Rattle.stack_walk.specs.declared.frame.FrameTrust.{FrameTrust}
use Rattle.stack_walk.specs.declared.frame.FrameTrust.TheVariants.{Context}
use Rattle.stack_walk.specs.declared.frame.StackFrame.{StackFrame}

-- where a return address returns to: on ARM of 32 bits its bit 0 only says that the code there is
-- Thumb code
abbrev pub returns_to : Cpu → ℕ → ℕ
returns_to cpu.Arm address = address - address % 2
returns_to _ address = address

-- the address before that, which lies in the call: none before 0
abbrev pub call_site : Cpu → ℕ → Option ℕ
call_site processor address = if nat_le 1 (returns_to processor address)
    then Some (returns_to processor address - 1) else None

-- the address by which a frame is looked up: the instruction pointer of a context, else that of the
-- call
abbrev lookup_by : Cpu → FrameTrust → ℕ → Option ℕ
lookup_by processor Context address = Some address
lookup_by processor _ address = call_site processor address

-- the same of a frame
abbrev pub lookup_address : Cpu → StackFrame → Option ℕ
lookup_address processor f = lookup_by processor f.trust f.instruction

-- the kept module that contains an address
abbrev pub module_at : List ModuleValue → Option ℕ → Option ModuleValue
module_at modules address = option_and_then (looked_up range_of_module modules) address

-- the index of the kept module that contains an address, and the offset in that
abbrev pub module_place : List ModuleValue → ℕ → Option (ℕ × ℕ)
module_place modules address = option_map (λ p. (p.0, address - p.1.raw.base_of_image))
    (looked_up (λ p. range_of_module p.1) (enumerate_from 0 modules) address)

-- the offset of an address in that module
abbrev pub module_offset_at : List ModuleValue → Option ℕ → Option ℕ
module_offset_at modules address =
    option_map (λ place. place.1) (option_and_then (module_place modules) address)

-- whether a kept module contains an address
abbrev pub is_code : List ModuleValue → ℕ → Bool
is_code modules address = is_some (looked_up range_of_module modules address)

-- a region is committed, as that of a line of the maps: its state is neither winnt.h's MEM_FREE nor
-- MEM_RESERVE, whose protection says nothing
abbrev pub is_committed : InfoRegion → Bool
is_committed (OfInfo m) = not (m.raw.state == 0x1_0000 || m.raw.state == 0x2000)
is_committed (OfMaps m) = true

-- a region is committed and may be run
abbrev pub is_runnable : InfoRegion → Bool
is_runnable region = is_committed region && region_is_executable region

-- whether the memory at an address may be run, by what is known of it: also where nothing is known
abbrev pub may_be_run : List InfoRegion → ℕ → Bool
may_be_run infos address =
    option_map_or is_runnable (looked_up range_of_info_region infos address) true

-- code is known to be at an address: a kept module contains it, or memory that may be run, as that
-- of code that was compiled while the process ran
abbrev pub has_code : List ModuleValue → List InfoRegion → ℕ → Bool
has_code modules infos address = is_code modules address
    || option_map_or is_runnable (looked_up range_of_info_region infos address) false

-- a region may be run, and not be written: where all memory may be run, data may be written, too
abbrev pub is_code_alone : InfoRegion → Bool
is_code_alone region = is_runnable region && not (region_is_writable region)

-- ---- addresses after a call

-- an address lies in a kept module, past its first page, which has the module's headers, or in no
-- module, in memory that may be run and not be written
abbrev pub is_past_headers : List ModuleValue → List InfoRegion → ℕ → Bool
is_past_headers modules infos address = option_map_or (λ place. nat_le 4096 place.1)
    (module_place modules address)
    (option_map_or is_code_alone (looked_up range_of_info_region infos address) false)

-- how many bytes an operand has, by mode and register of its ModR/M byte and the base of its SIB
-- byte: the first alone in mode 3; the second where the register is 4; and a displacement of one
-- byte in mode 1, of four in mode 2 and where the register, or with a SIB byte the base, is 5
-- (Intel's manual, volume 2, tables 2-2 and 2-3)
unfoldable pub operand_length : ℕ → ℕ → ℕ → ℕ
operand_length mode register base = if mode == 3 then 1
    else (let sib = if register == 4 then 1 else 0 in
    let last = if register == 4 then base else register in
    1 + sib + (if mode == 1 then 1 else if mode == 2 || last == 5 then 4 else 0))

-- a byte and an operand of so many bytes, by its first two, are a call by register or memory: FF
-- with a ModR/M byte whose bits 3 to 5 are 2
unfoldable pub calls_by : ℕ → ℕ → ℕ → ℕ → Bool
calls_by length first modrm sib = first == 255 && (modrm / 8 % 8 == 2
    && operand_length (modrm / 64) (modrm % 8) (sib % 8) == length)

-- the bytes before an address end with a call of x86 or x86-64: E8 with a distance; FF /2 with its
-- operand, in two to seven bytes; or 9A with a far address
unfoldable pub ends_x86_call : List ℕ → Bool
ends_x86_call (b7 ∷ b6 ∷ b5 ∷ b4 ∷ b3 ∷ b2 ∷ b1 ∷ []) =
    b5 == 232 || (calls_by 1 b2 b1 0 || (calls_by 2 b3 b2 b1 || (calls_by 3 b4 b3 b2
    || (calls_by 5 b6 b5 b4 || (calls_by 6 b7 b6 b5 || b7 == 154)))))
ends_x86_call _ = false

-- the same of ARM64: BL, or BLR in each of its forms, an instruction of four bytes, the lowest
-- first
unfoldable pub ends_arm64_call : List ℕ → Bool
ends_arm64_call (b7 ∷ b6 ∷ b5 ∷ b4 ∷ b3 ∷ b2 ∷ b1 ∷ []) =
    b1 / 4 == 37 || ((b1 == 214 || b1 == 215) && (b2 == 63 && nat_lt b3 16))
ends_arm64_call _ = false

-- the same of a processor; of others it isn't known, so that they may
abbrev pub ends_call : Cpu → List ℕ → Bool
ends_call cpu.X86 bytes = ends_x86_call bytes
ends_call cpu.X86_64 bytes = ends_x86_call bytes
ends_call cpu.Arm64 bytes = ends_arm64_call bytes
ends_call _ bytes = true

-- the seven bytes of which the last is at an address, if the kept region of the memory that
-- contains it has them
abbrev pub bytes_until : UnifiedRegions → ℕ → Option (List ℕ)
bytes_until memory address = option_and_then
    (λ region. let offset = address - region.base_address in
    if nat_le 6 offset && nat_lt offset (length region.bytes)
    then Some (slice_range region.bytes (offset - 6) (offset + 1)) else None)
    (looked_up range_of_region (unified_regions memory) address)

-- whether a call ends with the byte at an address, by the dump's memory: also where that doesn't
-- have the bytes
abbrev pub may_end_call : Cpu → UnifiedRegions → ℕ → Bool
may_end_call processor memory address =
    option_map_or (ends_call processor) (bytes_until memory address) true
