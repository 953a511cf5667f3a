-- Where a thread stands: what is known of its instruction pointer and of its registers, the code there,
-- the words from its stack pointer up, and the flags and the segments of its processor.
use Rattle.std.specs.Prelude.{ℕ, ◌+◌, ◌-◌, ◌*◌, ◌^◌, List, [], ◌∷◌, codes, drop, map, Bool, bytes_eq, filter, not}
use Rattle.std.specs.Prelude.{take, Option, None, if◌then◌else◌}
use Rattle.std.specs.List.{filter_map, range_with_len}
use Rattle.std.specs.Option.{option_and_then, option_map, option_map_or}
use Rattle.minidump.specs.declared.MinidumpRawContext.{MinidumpRawContext}
use Rattle.minidump.specs.declared.MinidumpRawContext.TheVariants.{Amd64, Arm, Arm64, OldArm64, X86}
use Rattle.minidump.specs.Below.Format.Flags.{has_flag}
use Rattle.minidump.specs.Below.MemoryLists.Unified.{UnifiedRegions}
use Rattle.minidump.specs.Below.System.Cpu.{pointer_bytes}
use Rattle.stack_walk.specs.Addresses.{is_address}
use Rattle.stack_walk.specs.Frames.{StackValue, instruction_pointer_in, pointer_at, stack_pointer_in}
use Rattle.stack_walk.specs.Lookups.{module_place}
use Rattle.crash_threads.specs.declared.addresses.AddressFacts.{AddressFacts}
use Rattle.crash_threads.specs.declared.point.CrashPoint.{CrashPoint}
use Rattle.crash_threads.specs.declared.point.StackWord.{StackWord}
use Rattle.crash_threads.specs.Addresses.{facts_of}
use Rattle.crash_streams.specs.Contents.{ContentsValue}
use Rattle.crash_threads.specs.Contexts.{register_values}
use Rattle.crash_threads.specs.Frames.{memory_at}
use Rattle.crash_threads.specs.Threads.{walked_at}

-- what is known of an instruction pointer and of each register that may hold an address, by its
-- name, the bytes from the instruction pointer on, the words from the stack pointer up, the flags
-- and the segments by their names, and the names of the flags that are set
pub record PointValue : Type 0 where
  pub instruction : AddressFacts
  pub registers : List (List ℕ × AddressFacts)
  pub code : List ℕ
  pub words : List StackWord
  pub flags : List (List ℕ × ℕ)
  pub set_flags : List (List ℕ)

-- the same of a `CrashPoint`
abbrev pub point_of : CrashPoint → PointValue
point_of p = record {
  instruction = p.instruction;
  registers = map (λ r. (r.0.now, r.1)) p.registers.items;
  code = p.code.now;
  words = p.words.items;
  flags = map (λ r. (r.0.now, r.1)) p.flags.items;
  set_flags = map (λ n. n.now) p.set_flags.items;
}

-- ---- the registers

-- a register may hold an address: all but eflags, which is among the registers of x86
abbrev pub holds_address : List ℕ → Bool
holds_address name = not (bytes_eq name (codes "eflags"))

-- what is known of the value of each register of a context that may hold an address, as an address, in
-- the order of the processor
abbrev pub register_facts : ContentsValue → MinidumpRawContext → List (List ℕ × AddressFacts)
register_facts c raw =
    map (λ r. (r.0, facts_of c r.1)) (filter (λ r. holds_address r.0) (register_values raw))

-- ---- the code

-- the bytes from an address on, at most 16, of the kept region that contains the address
abbrev pub code_at : UnifiedRegions → ℕ → List ℕ
code_at memory address = option_map_or (λ r. take 16 (drop (address - r.base_address) r.bytes))
    (memory_at memory address) []

-- ---- the words

-- the word that a stack holds at an address, with the module that contains it, as an address
abbrev pub word_in : StackValue → ℕ → Option StackWord
word_in s address = if is_address s.width address
    then option_map (λ value. record {
      address = address;
      value = value;
      «module» = module_place s.modules value;
    }) (pointer_at s address)
    else None

-- the word of a number from an address up
unfoldable pub word_at : StackValue → ℕ → ℕ → Option StackWord
word_at s from index = option_and_then (λ size. word_in s (from + index * size)) (pointer_bytes s.width)

-- those of so many words from an address up that the stack has
abbrev pub words_from : StackValue → ℕ → ℕ → List StackWord
words_from s from limit = filter_map (λ index. word_at s from index) (range_with_len 0 limit)

-- ---- the flags

-- the flags and the segments of a context, of x86 without the flags, which are among its registers
abbrev pub flags_of : MinidumpRawContext → List (List ℕ × ℕ)
flags_of (X86 c) = (codes "cs", c.cs) ∷ (codes "ss", c.ss)
    ∷ (codes "ds", c.ds) ∷ (codes "es", c.es) ∷ (codes "fs", c.fs) ∷ (codes "gs", c.gs) ∷ []
flags_of (Amd64 c) = (codes "eflags", c.eflags) ∷ (codes "cs", c.cs) ∷ (codes "ss", c.ss)
    ∷ (codes "ds", c.ds) ∷ (codes "es", c.es) ∷ (codes "fs", c.fs) ∷ (codes "gs", c.gs) ∷ []
flags_of (Arm c) = (codes "cpsr", c.cpsr) ∷ []
flags_of (Arm64 c) = (codes "cpsr", c.cpsr) ∷ []
flags_of (OldArm64 c) = (codes "cpsr", c.cpsr) ∷ []

-- ---- the flags that are set

-- the flags of eflags, each its name and its bit, as Intel's manual has them
unfoldable pub x86_flags : List (List ℕ × ℕ)
x86_flags = (codes "CF", 2 ^ 0) ∷ (codes "PF", 2 ^ 2) ∷ (codes "AF", 2 ^ 4) ∷ (codes "ZF", 2 ^ 6)
    ∷ (codes "SF", 2 ^ 7) ∷ (codes "TF", 2 ^ 8) ∷ (codes "IF", 2 ^ 9) ∷ (codes "DF", 2 ^ 10)
    ∷ (codes "OF", 2 ^ 11) ∷ (codes "NT", 2 ^ 14) ∷ (codes "RF", 2 ^ 16) ∷ (codes "VM", 2 ^ 17)
    ∷ (codes "AC", 2 ^ 18) ∷ (codes "VIF", 2 ^ 19) ∷ (codes "VIP", 2 ^ 20) ∷ (codes "ID", 2 ^ 21) ∷ []

-- those of cpsr on ARM, as Arm's manual has them: J is a flag up to ARMv7, SSBS, PAN and DIT since ARMv8
unfoldable pub arm_flags : List (List ℕ × ℕ)
arm_flags = (codes "N", 2 ^ 31) ∷ (codes "Z", 2 ^ 30) ∷ (codes "C", 2 ^ 29) ∷ (codes "V", 2 ^ 28)
    ∷ (codes "Q", 2 ^ 27) ∷ (codes "J", 2 ^ 24) ∷ (codes "SSBS", 2 ^ 23) ∷ (codes "PAN", 2 ^ 22)
    ∷ (codes "DIT", 2 ^ 21) ∷ (codes "E", 2 ^ 9) ∷ (codes "A", 2 ^ 8) ∷ (codes "I", 2 ^ 7)
    ∷ (codes "F", 2 ^ 6) ∷ (codes "T", 2 ^ 5) ∷ []

-- those of cpsr on ARM64: of SPSR_EL1, in AArch64, the fields of one bit
unfoldable pub arm64_flags : List (List ℕ × ℕ)
arm64_flags = (codes "N", 2 ^ 31) ∷ (codes "Z", 2 ^ 30) ∷ (codes "C", 2 ^ 29) ∷ (codes "V", 2 ^ 28)
    ∷ (codes "TCO", 2 ^ 25) ∷ (codes "DIT", 2 ^ 24) ∷ (codes "UAO", 2 ^ 23) ∷ (codes "PAN", 2 ^ 22)
    ∷ (codes "SS", 2 ^ 21) ∷ (codes "IL", 2 ^ 20) ∷ (codes "ALLINT", 2 ^ 13) ∷ (codes "SSBS", 2 ^ 12)
    ∷ (codes "D", 2 ^ 9) ∷ (codes "A", 2 ^ 8) ∷ (codes "I", 2 ^ 7) ∷ (codes "F", 2 ^ 6) ∷ []

-- the names of the flags of a table that a number has
unfoldable pub names_in : List (List ℕ × ℕ) → ℕ → List (List ℕ)
names_in table number = map (λ f. f.0) (filter (λ f. has_flag number f.1) table)

-- the names of the flags that are set in a context
abbrev pub set_flags : MinidumpRawContext → List (List ℕ)
set_flags (X86 c) = names_in x86_flags c.eflags
set_flags (Amd64 c) = names_in x86_flags c.eflags
set_flags (Arm c) = names_in arm_flags c.cpsr
set_flags (Arm64 c) = names_in arm64_flags c.cpsr
set_flags (OldArm64 c) = names_in arm64_flags c.cpsr

-- ---- all of it

-- the point of the thread of an index, which has a walk, by its stack and context
abbrev pub point_in : ContentsValue → ℕ → Option ℕ → Option ℕ → Option PointValue
point_in c bits counts thread = option_map (λ w. let raw = w.1.raw in record {
  instruction = facts_of c (instruction_pointer_in raw);
  registers = register_facts c raw;
  code = code_at c.space.memory (instruction_pointer_in raw);
  words = words_from w.0 (stack_pointer_in raw) 16;
  flags = flags_of raw;
  set_flags = set_flags raw;
}) (option_and_then (walked_at c bits counts) thread)
