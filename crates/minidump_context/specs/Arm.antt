-- The registers of an ARM processor: Breakpad's MDRawContextARM, by name.
use Rattle.std.specs.Prelude.{ℕ, List, [], ◌∷◌, codes, map, slice_index}
use Rattle.minidump_format.specs.declared.format.context.arm.CONTEXT_ARM.{CONTEXT_ARM}

-- the canonical name of each register and its offset in the record
unfoldable pub arm_registers : List (List ℕ × ℕ)
arm_registers =
    (codes "r0", 4) ∷
    (codes "r1", 8) ∷
    (codes "r2", 12) ∷
    (codes "r3", 16) ∷
    (codes "r4", 20) ∷
    (codes "r5", 24) ∷
    (codes "r6", 28) ∷
    (codes "r7", 32) ∷
    (codes "r8", 36) ∷
    (codes "r9", 40) ∷
    (codes "r10", 44) ∷
    (codes "r12", 52) ∷
    (codes "fp", 48) ∷
    (codes "sp", 56) ∷
    (codes "lr", 60) ∷
    (codes "pc", 64) ∷
    []

-- each alias with the canonical name that it stands for
unfoldable pub arm_aliases : List (List ℕ × List ℕ)
arm_aliases =
    (codes "r11", codes "fp") ∷ (codes "r13", codes "sp") ∷
    (codes "r14", codes "lr") ∷ (codes "r15", codes "pc") ∷ []

-- the number of each register of the table: its index in iregs
unfoldable pub arm_numbers : List ℕ
arm_numbers = 0 ∷ 1 ∷ 2 ∷ 3 ∷ 4 ∷ 5 ∷ 6 ∷ 7 ∷ 8 ∷ 9 ∷ 10 ∷ 12 ∷ 11 ∷ 13 ∷ 14 ∷ 15 ∷ []

-- their values, in the order of the table
unfoldable pub arm_values : CONTEXT_ARM → List ℕ
arm_values c = map (slice_index c.iregs) arm_numbers

-- the context without the values of its registers
unfoldable pub arm_rest : CONTEXT_ARM → CONTEXT_ARM
arm_rest c = record c { iregs = [] }
