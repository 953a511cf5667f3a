-- The registers of an ARM64 processor, by name: Microsoft's ARM64_NT_CONTEXT, and Breakpad's
-- MDRawContextARM64_Old, which has them at the same offsets.
use Rattle.std.specs.Prelude.{ℕ, List, [], ◌∷◌, ◌++◌, codes, map, slice_index}
use Rattle.std.specs.List.{range_with_len}
use Rattle.minidump_format.specs.declared.format.context.arm64.CONTEXT_ARM64.{CONTEXT_ARM64}
use Rattle.minidump_format.specs.declared.format.context.arm64.CONTEXT_ARM64_OLD.{CONTEXT_ARM64_OLD}

-- the canonical name of each register and its offset in the record
unfoldable pub arm64_registers : List (List ℕ × ℕ)
arm64_registers =
    (codes "x0", 8) ∷
    (codes "x1", 16) ∷
    (codes "x2", 24) ∷
    (codes "x3", 32) ∷
    (codes "x4", 40) ∷
    (codes "x5", 48) ∷
    (codes "x6", 56) ∷
    (codes "x7", 64) ∷
    (codes "x8", 72) ∷
    (codes "x9", 80) ∷
    (codes "x10", 88) ∷
    (codes "x11", 96) ∷
    (codes "x12", 104) ∷
    (codes "x13", 112) ∷
    (codes "x14", 120) ∷
    (codes "x15", 128) ∷
    (codes "x16", 136) ∷
    (codes "x17", 144) ∷
    (codes "x18", 152) ∷
    (codes "x19", 160) ∷
    (codes "x20", 168) ∷
    (codes "x21", 176) ∷
    (codes "x22", 184) ∷
    (codes "x23", 192) ∷
    (codes "x24", 200) ∷
    (codes "x25", 208) ∷
    (codes "x26", 216) ∷
    (codes "x27", 224) ∷
    (codes "x28", 232) ∷
    (codes "fp", 240) ∷
    (codes "lr", 248) ∷
    (codes "sp", 256) ∷
    (codes "pc", 264) ∷
    []

-- each alias with the canonical name that it stands for
unfoldable pub arm64_aliases : List (List ℕ × List ℕ)
arm64_aliases = (codes "x29", codes "fp") ∷ (codes "x30", codes "lr") ∷ []

-- their values, in the order of the table
unfoldable pub arm64_values : CONTEXT_ARM64 → List ℕ
arm64_values c = map (slice_index c.iregs) (range_with_len 0 31) ++ c.sp ∷ c.pc ∷ []

-- the context without the values of its registers
unfoldable pub arm64_rest : CONTEXT_ARM64 → CONTEXT_ARM64
arm64_rest c = record c { iregs = []; sp = 0; pc = 0 }

-- the values in Breakpad's old layout, in the order of the table
unfoldable pub arm64_old_values : CONTEXT_ARM64_OLD → List ℕ
arm64_old_values c = map (slice_index c.iregs) (range_with_len 0 31) ++ c.sp ∷ c.pc ∷ []

-- the context in Breakpad's old layout without the values of its registers
unfoldable pub arm64_old_rest : CONTEXT_ARM64_OLD → CONTEXT_ARM64_OLD
arm64_old_rest c = record c { iregs = []; sp = 0; pc = 0 }
