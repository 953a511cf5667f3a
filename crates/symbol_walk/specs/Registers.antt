-- The registers of a processor: how rules call each, how a context calls it, and what the calling
-- convention makes of it.
use Rattle.std.specs.Prelude.{ℕ, ◌==◌, Bool, true, false, List, [], ◌∷◌, ◌++◌, codes, map, Option}
use Rattle.std.specs.List.{filter_map, find, flat_map, slice_split}
use Rattle.std.specs.Option.{option_and_then, option_map}
use Rattle.std.specs.Str.{bytes_eq}
use Rattle.minidump.specs.declared.MinidumpRawContext.{MinidumpRawContext}
use Rattle.minidump.specs.declared.MinidumpRawContext.TheVariants.{X86, Amd64, Arm, Arm64, OldArm64}
use Rattle.symbol_walk.specs.declared.registers.KnownRegister.{KnownRegister}
use Rattle.symbol_walk.specs.declared.registers.Register.{Register}
use Rattle.symbol_walk.specs.declared.registers.RegisterRole.{RegisterRole}
use Rattle.symbol_walk.specs.declared.registers.RegisterRole.TheVariants.{InstructionPointer}
use Rattle.symbol_walk.specs.declared.registers.RegisterRole.TheVariants.{StackPointer}
use Rattle.symbol_walk.specs.declared.registers.RegisterRole.TheVariants.{FramePointer}
use Rattle.symbol_walk.specs.declared.registers.RegisterRole.TheVariants.{Saved, Scratch}

-- a register: the label that rules have for it, the name that a context has, and its role
pub record RegisterRow : Type 0 where
  pub label : List ℕ
  pub name : List ℕ
  pub role : RegisterRole

-- the register of a `Register`
abbrev pub row_of : Register → RegisterRow
row_of r = record { label = r.label.now; name = r.name.now; role = r.role }

-- the words of a text, with a space between two
abbrev words : List ℕ → List (List ℕ)
words text = slice_split (λ c. c == 0x20) text

-- registers of one role whose labels are their names
abbrev plain : RegisterRole → List ℕ → List RegisterRow
plain role names = map (λ name. record { label = name; name = name; role = role }) (words names)

-- registers of one role whose labels are their names after a dollar sign
abbrev marked : RegisterRole → List ℕ → List RegisterRow
marked role names =
    map (λ name. record { label = codes "$" ++ name; name = name; role = role }) (words names)

-- a register with a label of its own
abbrev labelled : RegisterRole → List ℕ → List ℕ → List RegisterRow
labelled role label name = record { label = label; name = name; role = role } ∷ []

-- ---- the registers of each processor; a function keeps the saved ones, and the frame pointer, for
-- its caller

unfoldable pub x86_table : List RegisterRow
x86_table = flat_map (λ rows. rows) (
    marked InstructionPointer (codes "eip") ∷
    marked StackPointer (codes "esp") ∷
    marked FramePointer (codes "ebp") ∷
    marked Saved (codes "ebx esi edi") ∷
    marked Scratch (codes "eax ecx edx") ∷
    [])

unfoldable pub amd64_table : List RegisterRow
amd64_table = flat_map (λ rows. rows) (
    marked Scratch (codes "rax rdx rcx") ∷
    marked Saved (codes "rbx") ∷
    marked Scratch (codes "rsi rdi") ∷
    marked FramePointer (codes "rbp") ∷
    marked StackPointer (codes "rsp") ∷
    marked Scratch (codes "r8 r9 r10 r11") ∷
    marked Saved (codes "r12 r13 r14 r15") ∷
    marked InstructionPointer (codes "rip") ∷
    [])

unfoldable pub arm_table : List RegisterRow
arm_table = flat_map (λ rows. rows) (
    plain Scratch (codes "r0 r1 r2 r3") ∷
    plain Saved (codes "r4 r5 r6 r7 r8 r9 r10") ∷
    labelled FramePointer (codes "r11") (codes "fp") ∷
    plain Scratch (codes "r12") ∷
    plain StackPointer (codes "sp") ∷
    plain Scratch (codes "lr") ∷
    plain InstructionPointer (codes "pc") ∷
    [])

unfoldable pub arm64_table : List RegisterRow
arm64_table = flat_map (λ rows. rows) (
    plain Scratch (codes "x0 x1 x2 x3 x4 x5 x6 x7 x8 x9 x10 x11 x12 x13 x14 x15 x16 x17 x18") ∷
    plain Saved (codes "x19 x20 x21 x22 x23 x24 x25 x26 x27 x28") ∷
    labelled FramePointer (codes "x29") (codes "fp") ∷
    labelled Scratch (codes "x30") (codes "lr") ∷
    plain StackPointer (codes "sp") ∷
    plain InstructionPointer (codes "pc") ∷
    [])

-- the registers of the processor of a context
abbrev pub register_table : MinidumpRawContext → List RegisterRow
register_table (X86 c) = x86_table
register_table (Amd64 c) = amd64_table
register_table (Arm c) = arm_table
register_table (Arm64 c) = arm64_table
register_table (OldArm64 c) = arm64_table

-- ---- values of registers

-- a register whose value is known, by its name
abbrev pub known_of : KnownRegister → List ℕ × ℕ
known_of k = (k.name.now, k.value)

-- the registers of a table that have a value
unfoldable pub known_by : (RegisterRow → Option ℕ) → List RegisterRow → List (List ℕ × ℕ)
known_by value table = filter_map (λ r. option_map (λ v. (r.name, v)) (value r)) table

-- the value of the register with a name, if it is known
abbrev pub known_value : List (List ℕ × ℕ) → List ℕ → Option ℕ
known_value known name = option_map (λ k. k.1) (find (λ k. bytes_eq k.0 name) known)

-- the known value of the first register of a table that passes a test
unfoldable pub value_where : (RegisterRow → Bool) → List RegisterRow → List (List ℕ × ℕ) → Option ℕ
value_where test table known = option_and_then (λ r. known_value known r.name) (find test table)

-- the known value of the register with a label
abbrev pub labelled_value : List RegisterRow → List (List ℕ × ℕ) → List ℕ → Option ℕ
labelled_value table known label = value_where (λ r. bytes_eq r.label label) table known

abbrev pub is_stack_pointer : RegisterRole → Bool
is_stack_pointer StackPointer = true
is_stack_pointer _ = false

abbrev pub is_frame_pointer : RegisterRole → Bool
is_frame_pointer FramePointer = true
is_frame_pointer _ = false

-- the known values of both pointers
abbrev pub known_stack_pointer : List RegisterRow → List (List ℕ × ℕ) → Option ℕ
known_stack_pointer table known = value_where (λ r. is_stack_pointer r.role) table known

abbrev pub known_frame_pointer : List RegisterRow → List (List ℕ × ℕ) → Option ℕ
known_frame_pointer table known = value_where (λ r. is_frame_pointer r.role) table known
