-- The processors that a context can be of, by the bits of its flags (winnt.h, Breakpad's
-- minidump_cpu_*.h).
use Rattle.std.specs.Prelude.{ℕ, List, [], ◌∷◌, codes}

-- Microsoft's CONTEXT_i386 and so on, Breakpad's MD_CONTEXT_ numbers
unfoldable pub context_flags : List (List ℕ × ℕ)
context_flags =
    (codes "CONTEXT_X86", 0x1_0000) ∷
    (codes "CONTEXT_MIPS", 0x4_0000) ∷
    (codes "CONTEXT_MIPS64", 0x8_0000) ∷
    (codes "CONTEXT_AMD64", 0x10_0000) ∷
    (codes "CONTEXT_ARM64", 0x40_0000) ∷
    (codes "CONTEXT_PPC64", 0x100_0000) ∷
    (codes "CONTEXT_SPARC", 0x1000_0000) ∷
    (codes "CONTEXT_PPC", 0x2000_0000) ∷
    (codes "CONTEXT_ARM", 0x4000_0000) ∷
    (codes "CONTEXT_ARM64_OLD", 0x8000_0000) ∷
    []
