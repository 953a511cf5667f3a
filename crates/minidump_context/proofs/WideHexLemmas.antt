-- A number of 128 bits in hexadecimal: the digits of its high half, then sixteen of its low half.
use Rattle.std.proofs.Common.{◌≡◌, ℕ, zero, suc, ◌+◌, ◌*◌, ◌/◌, ◌%◌, ◌^◌, ◌<◌, false, [], ◌∷◌, ◌++◌}
use Rattle.std.proofs.Common.{sym, ap, ◌∙◌, arith, append-nil, append_assoc}
use Rattle.std.specs.Fmt.{digits, digit_glyph}
use Rattle.minidump_bytes.specs.Piece.{wide_hex}
use Rattle.minidump_bytes.specs.FixedHex.{fixed_hex}
use Rattle.minidump_bytes.proofs.FixedHexLemmas.{wide_fixed}
use Rattle.minidump_bytes.proofs.HexLemmas.{hex_step}

-- a number before so many digits
abbrev up : ℕ → ℕ → ℕ
up zero h = h
up (suc k) h = 16 * up k h

up_positive : (k h : ℕ) → 0 < h → 0 < up k h
up_positive zero h p = p
up_positive (suc k) h p = omega (arith, up_positive k h p)

digits_after : (k h l : ℕ) → 0 < h → l < 16 ^ k → up k h + l < 2 ^ 128 → digits 16 false (up k h + l) ≡ digits 16 false h ++ fixed_hex k l
digits_after zero h l p small fits = let e : h + l ≡ h = omega (arith, small) in ap (digits 16 false) e ∙ sym (append-nil (digits 16 false h))
digits_after (suc k) h l p small fits =
    let n = 16 * up k h + l in
    let front : n / 16 ≡ up k h + l / 16 = omega arith in
    let back : n % 16 ≡ l % 16 = omega arith in
    hex_step n (omega (arith, up_positive k h p)) fits ∙ ap (λ m. digits 16 false m ++ (digit_glyph false (n % 16) ∷ [])) front
    ∙ ap (λ t. t ++ (digit_glyph false (n % 16) ∷ [])) (digits_after k h (l / 16) p (omega (arith, small)) (omega (arith, fits)))
    ∙ append_assoc (digits 16 false h) (fixed_hex k (l / 16)) (digit_glyph false (n % 16) ∷ [])
    ∙ ap (λ d. digits 16 false h ++ (fixed_hex k (l / 16) ++ (digit_glyph false d ∷ []))) back

both : (n : ℕ) → n ≡ up 16 (n / 2 ^ 64) + n % 2 ^ 64
both n = omega arith

-- both halves of a number
pub halves : (n : ℕ) → n < 2 ^ 128 → 0 < n / 2 ^ 64 → digits 16 false n ≡ digits 16 false (n / 2 ^ 64) ++ (wide_hex 16 (n % 2 ^ 64) ++ [])
halves n fits p =
    ap (digits 16 false) (both n) ∙ digits_after 16 (n / 2 ^ 64) (n % 2 ^ 64) p (omega arith) (omega (arith, fits))
    ∙ ap (λ t. digits 16 false (n / 2 ^ 64) ++ t) (sym (wide_fixed 15 (n % 2 ^ 64) (omega arith) (omega arith)))
    ∙ ap (λ t. digits 16 false (n / 2 ^ 64) ++ t) (sym (append-nil (wide_hex 16 (n % 2 ^ 64))))
