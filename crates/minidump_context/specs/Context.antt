-- The contexts of all processors: which bytes hold one, and the values of its registers.
use Rattle.std.specs.Prelude.{ℕ, ◌^◌, ◌%◌, drop, codes, nat_le, Bool, ◌==◌, ◌||◌, ◌&&◌, not, List, [], Option}
use Rattle.std.specs.Prelude.{Some, None, Result, Ok, Err, if◌then◌else◌}
use Rattle.std.specs.List.{list_all, filter_map}
use Rattle.std.specs.Option.{option_map, option_copied}
use Rattle.minidump_bytes.specs.declared.endian.Endian.{Endian}
use Rattle.minidump_bytes.specs.Layout.{Layout}
use Rattle.minidump_bytes.specs.Span.{record_at}
use Rattle.minidump_format.specs.Flags.{has_flag}
use Rattle.minidump_format.specs.ContextFlags.{context_flags}
use Rattle.minidump_format.specs.ContextX86.{context_x86}
use Rattle.minidump_format.specs.ContextAmd64.{context_amd64}
use Rattle.minidump_format.specs.ContextArm.{context_arm}
use Rattle.minidump_format.specs.ContextArm64.{context_arm64, context_arm64_old}
use Rattle.minidump_format.specs.System.{architecture_of}
use Rattle.minidump_format.specs.declared.format.system.ProcessorArchitecture.{ProcessorArchitecture}
use Rattle.minidump_format.specs.declared.format.system.ProcessorArchitecture.TheVariants.{PROCESSOR_ARCHITECTURE_INTEL}
use Rattle.minidump_format.specs.declared.format.system.ProcessorArchitecture.TheVariants.{PROCESSOR_ARCHITECTURE_ARM}
use Rattle.minidump_format.specs.declared.format.system.ProcessorArchitecture.TheVariants.{PROCESSOR_ARCHITECTURE_AMD64}
use Rattle.minidump_format.specs.declared.format.system.ProcessorArchitecture.TheVariants.{}
use Rattle.minidump_format.specs.declared.format.system.ProcessorArchitecture.TheVariants.{}
use Rattle.minidump_format.specs.declared.format.system.ProcessorArchitecture.TheVariants.{PROCESSOR_ARCHITECTURE_IA32_ON_WIN64}
use Rattle.minidump_format.specs.declared.format.system.ProcessorArchitecture.TheVariants.{PROCESSOR_ARCHITECTURE_ARM64}
use Rattle.minidump_format.specs.declared.format.system.ProcessorArchitecture.TheVariants.{}
use Rattle.minidump_format.specs.declared.format.system.ProcessorArchitecture.TheVariants.{}
use Rattle.minidump_format.specs.declared.format.system.ProcessorArchitecture.TheVariants.{PROCESSOR_ARCHITECTURE_ARM64_OLD}
use Rattle.minidump_context.specs.declared.context.ContextError.{ContextError}
use Rattle.minidump_context.specs.declared.context.ContextError.TheVariants.{ReadFailure, UnknownCpuContext}
use Rattle.minidump_context.specs.declared.context_registers.ContextRegisters.{ContextRegisters}
use Rattle.minidump_context.specs.declared.raw_context.MinidumpRawContext.{MinidumpRawContext}
use Rattle.minidump_context.specs.declared.raw_context.MinidumpRawContext.TheVariants.{X86, Amd64, Arm, Arm64, OldArm64}
use Rattle.minidump_context.specs.declared.validity.MinidumpContextValidity.{MinidumpContextValidity}
use Rattle.minidump_context.specs.Register.{names_of, register_name, value_of, is_valid, all_or}
use Rattle.minidump_context.specs.X86.{x86_registers, x86_values}
use Rattle.minidump_context.specs.Amd64.{amd64_registers, amd64_values}
use Rattle.minidump_context.specs.Arm.{arm_registers, arm_aliases, arm_values}
use Rattle.minidump_context.specs.Arm64.{arm64_registers, arm64_aliases, arm64_values, arm64_old_values}

-- a result, with a function applied to its value
abbrev pub map_ok : {A B E : Type 0} → (A → B) → Result A E → Result B E
map_ok f (Ok x) = Ok (f x)
map_ok f (Err e) = Err e

-- whether flags have the bit of a processor, and of no other one below 0x1000_0000
abbrev pub is_of : ℕ → ℕ → Bool
is_of processor flags = has_flag flags processor
    && list_all
    (λ row. nat_le 0x1000_0000 row.1 || (processor == row.1) || not (has_flag flags row.1))
    context_flags

-- a context, if there is one and its flags are those of its processor
abbrev pub of_processor : {C : Type 0} → ℕ → (C → ℕ) → Option C → Result C ContextError
of_processor processor flags None = Err ReadFailure
of_processor processor flags (Some c) = if is_of processor (flags c) then Ok c else Err ReadFailure

-- the context of one processor at the start of the bytes; more bytes may follow
unfoldable pub processor_context : {C : Type 0} → Layout C → ℕ → (C → ℕ) → Endian → List ℕ
    → Result C ContextError
processor_context layout processor flags order bytes =
    of_processor processor flags (record_at layout order 0 bytes)

-- the context of an architecture at the start of the bytes. The flags of ARM64's old layout are a
-- number of 64 bits, of which the low 32 count
abbrev pub context_of : Endian → List ℕ → Option ProcessorArchitecture
    → Result MinidumpRawContext ContextError
context_of order bytes (Some PROCESSOR_ARCHITECTURE_INTEL) =
    map_ok X86 (processor_context context_x86 0x1_0000 (λ c. c.context_flags) order bytes)
context_of order bytes (Some PROCESSOR_ARCHITECTURE_IA32_ON_WIN64) =
    map_ok X86 (processor_context context_x86 0x1_0000 (λ c. c.context_flags) order bytes)
context_of order bytes (Some PROCESSOR_ARCHITECTURE_AMD64) =
    map_ok Amd64 (processor_context context_amd64 0x10_0000 (λ c. c.context_flags) order bytes)
context_of order bytes (Some PROCESSOR_ARCHITECTURE_ARM) =
    map_ok Arm (processor_context context_arm 0x4000_0000 (λ c. c.context_flags) order bytes)
context_of order bytes (Some PROCESSOR_ARCHITECTURE_ARM64) =
    map_ok Arm64 (processor_context context_arm64 0x40_0000 (λ c. c.context_flags) order bytes)
context_of order bytes (Some PROCESSOR_ARCHITECTURE_ARM64_OLD) =
    map_ok OldArm64
    (processor_context context_arm64_old 0x8000_0000 (λ c. c.context_flags % 2 ^ 32) order bytes)
context_of order bytes architecture = Err UnknownCpuContext

-- the same, by the number of the architecture. The misc information decides nothing
abbrev pub context_in : Endian → List ℕ → ℕ → Result MinidumpRawContext ContextError
context_in order bytes architecture = context_of order bytes (architecture_of architecture)

-- the registers of a context: canonical names, aliases, values in the order of the names, the names
-- of the pointers, and the size of each in bytes
pub record Registers : Type 0 where
  pub names : List (List ℕ)
  pub aliases : List (List ℕ × List ℕ)
  pub values : List ℕ
  pub stack_pointer : List ℕ
  pub instruction_pointer : List ℕ
  pub size : ℕ

-- the registers of a context, by the table, the aliases, the values, the names of the stack and the
-- instruction pointer, and the size of each
abbrev pub registers_by : List (List ℕ × ℕ) → List (List ℕ × List ℕ) → List ℕ → List ℕ → List ℕ → ℕ
    → Registers
registers_by table aliases values stack_pointer instruction_pointer size = record {
  names = names_of table;
  aliases = aliases;
  values = values;
  stack_pointer = stack_pointer;
  instruction_pointer = instruction_pointer;
  size = size;
}

-- the registers of each processor's context
abbrev pub registers_of : MinidumpRawContext → Registers
registers_of (X86 c) = registers_by x86_registers [] (x86_values c) (codes "esp") (codes "eip") 4
registers_of (Amd64 c) =
    registers_by amd64_registers [] (amd64_values c) (codes "rsp") (codes "rip") 8
registers_of (Arm c) =
    registers_by arm_registers arm_aliases (arm_values c) (codes "sp") (codes "pc") 4
registers_of (Arm64 c) =
    registers_by arm64_registers arm64_aliases (arm64_values c) (codes "sp") (codes "pc") 8
registers_of (OldArm64 c) =
    registers_by arm64_registers arm64_aliases (arm64_old_values c) (codes "sp") (codes "pc") 8

-- the canonical name of the register that has a name
abbrev pub register_name_in : Registers → List ℕ → Option (List ℕ)
register_name_in r name = register_name r.names r.aliases name

-- the value of that register
abbrev pub value_in : Registers → List ℕ → Option ℕ
value_in r name = value_of r.names r.aliases r.values name

-- its value, if it is valid
abbrev pub valid_value_in : MinidumpContextValidity → Registers → List ℕ → Option ℕ
valid_value_in valid r name =
    if is_valid valid r.names r.aliases name then value_in r name else None

-- the names and values of the valid registers, from an index of the list of names on
unfoldable pub valid_registers_from : MinidumpContextValidity → Registers → ℕ → List (List ℕ × ℕ)
valid_registers_from valid r index =
    filter_map
    (λ name. option_map (λ value. (name, value)) (valid_value_in valid r name))
    (drop index r.names)

-- what an iterator over registers has left
abbrev pub context_registers_left : ContextRegisters → List (List ℕ × ℕ)
context_registers_left s =
    valid_registers_from (all_or (option_copied s.valid)) (registers_of s.raw.now) s.index
