-- The kinds of CodeView record: Microsoft's `NB10` and `RSDS`, and Breakpad's
-- MD_CVINFOELF_SIGNATURE of minidump_format.h.
use Rattle.std.specs.Prelude.{ℕ, [], ◌∷◌, find, ◌==◌, Option}
use Rattle.minidump_format.specs.declared.format.code_view.CvSignature.{CvSignature}
use Rattle.minidump_format.specs.declared.format.code_view.CvSignature.TheVariants.{Pdb20, Pdb70}
use Rattle.minidump_format.specs.declared.format.code_view.CvSignature.TheVariants.{Elf}

-- the number of each kind
abbrev pub signature_number : CvSignature → ℕ
signature_number Pdb20 = 0x3031_424e
signature_number Pdb70 = 0x5344_5352
signature_number Elf = 0x4270_454c

-- the kind that has a number, which is no other's
abbrev pub signature_of : ℕ → Option CvSignature
signature_of n = find (λ s. signature_number s == n) (Pdb20 ∷ Pdb70 ∷ Elf ∷ [])
