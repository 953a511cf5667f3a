-- The line of a word of a stack whose offset takes at most eight digits.
use Rattle.std.proofs.Common.{◌≡◌, ℕ, ◌^◌, ◌<◌, ◌++◌, codes, ap, ◌∙◌, arith}
use Rattle.minidump_bytes.specs.FixedHex.{fixed_hex}
use Rattle.minidump_bytes.specs.Piece.{wide_hex}
use Rattle.minidump_bytes.proofs.FixedHexLemmas.{wide_fixed}
use Rattle.minidump.specs.ThreadText.{word_line}

pub near_32 : (offset word : ℕ) → offset < 2 ^ 32 → word < 2 ^ 32
    → word_line 4 offset word ≡ codes "    0x" ++ (fixed_hex 8 offset ++ (codes ": 0x" ++ (fixed_hex 8 word ++ codes "\n")))
unfolding word_line
near_32 offset word near small =
    ap (λ t. codes "    0x" ++ (t ++ (codes ": 0x" ++ (wide_hex 8 word ++ codes "\n")))) (wide_fixed 7 offset (omega (arith, near)) (omega (arith, near)))
    ∙ ap (λ t. codes "    0x" ++ (fixed_hex 8 offset ++ (codes ": 0x" ++ (t ++ codes "\n")))) (wide_fixed 7 word (omega (arith, small)) (omega (arith, small)))

pub near_64 : (offset word : ℕ) → offset < 2 ^ 32 → word < 2 ^ 64
    → word_line 8 offset word ≡ codes "    0x" ++ (fixed_hex 8 offset ++ (codes ": 0x" ++ (fixed_hex 16 word ++ codes "\n")))
unfolding word_line
near_64 offset word near small =
    ap (λ t. codes "    0x" ++ (t ++ (codes ": 0x" ++ (wide_hex 16 word ++ codes "\n")))) (wide_fixed 7 offset (omega (arith, near)) (omega (arith, near)))
    ∙ ap (λ t. codes "    0x" ++ (fixed_hex 8 offset ++ (codes ": 0x" ++ (t ++ codes "\n")))) (wide_fixed 15 word small small)
