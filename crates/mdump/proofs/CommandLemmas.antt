-- The words of a command, and the spelling of an address.
use Rattle.std.proofs.Common.{◌≡◌, ◌≢◌, ◌↔◌, inl, inr, ℕ, ◌<◌, ◌≤◌, ◌^◌, List, [], ◌∷◌, ◌++◌, length, get_or, codes, lit<, arith, ap, refl, sym, subst, ◌∙◌, Option}
use Rattle.std.proofs.Common.{Some, Result, Ok, Err}
use Rattle.std.specs.Result.{result_ok}
use Rattle.std.specs.Str.Parse.{AllDigits, digits_value, ParsesUnsigned}
use Rattle.std.proofs.lemmas.Str.Parse.{without_leading_plus_none}
use Rattle.std.proofs.lemmas.Int.Digits.{digits_value-lt}
use Rattle.std.proofs.Math.Nat.{pow-le-pow_right}
use Rattle.mdump.specs.Command.{WritesHex, SpellsAddress}

-- the items of a list of two or three; the first part lets the search use the lemma where it sees `length xs`
pub few_items : {X : Type 0} (xs : List X) → (length xs ≡ length xs) × (length xs ≡ 2 → (a b : X) × (xs ≡ a ∷ b ∷ []))
    × (length xs ≡ 3 → (a b c : X) × (xs ≡ a ∷ b ∷ c ∷ []))
few_items (a ∷ b ∷ []) = (refl, λ e. (a, b, refl), λ e. absurd (omega (arith, e)))
few_items (a ∷ b ∷ c ∷ []) = (refl, λ e. absurd (omega (arith, e)), λ e. (a, b, c, refl))
few_items _ = (refl, λ e. absurd (omega (arith, e)), λ e. absurd (omega (arith, e)))

-- 16 digits fit 64 bits
hex_fits : (ds : List ℕ) {n : ℕ} → WritesHex ds n → digits_value 16 ds < 2 ^ 64
hex_fits ds w =
    let below = digits_value-lt 16 ds w.numeral.1 in
    let most = pow-le-pow_right {n = 16} (lit< tt) w.short in
    omega (arith, below, most)

-- what `from_str_radix` reads with no sign is what the digits write
pub reads_hex : {E : Type 0} (ds : List ℕ) (r : Result ℕ E) → ParsesUnsigned 64 16 ds r → get_or ds 0 0 ≢ 43 → length ds ≤ 16
    → (n : ℕ) → (result_ok r ≡ Some n) ↔ WritesHex ds n
reads_hex ds (Ok x) h plain short n =
    let k = rw (without_leading_plus_none ds plain) at h in
    ((λ e. record { numeral = k.0.0; short = short; value = let same : x ≡ n = cc in sym k.1 ∙ same }), λ w. ap Some (k.1 ∙ w.value))
reads_hex ds (Err e) h plain short n =
    let k = rw (without_leading_plus_none ds plain) at h in
    ((λ e. absurd cc), λ w. absurd (k (w.numeral, hex_fits ds w)))

-- an `x` is no digit
no_prefix : (word rest : List ℕ) {n : ℕ} → word ≡ codes "0x" ++ rest → WritesHex word n → ⊥
no_prefix word rest e w = let digits : AllDigits 16 (codes "0x" ++ rest) = subst (AllDigits 16) e w.numeral.1 in omega (arith, digits.1.0)

-- the address after the prefix
pub after_prefix : (word rest : List ℕ) (o : Option ℕ) → word ≡ codes "0x" ++ rest → ((n : ℕ) → (o ≡ Some n) ↔ WritesHex rest n)
    → (n : ℕ) → (o ≡ Some n) ↔ SpellsAddress word n
unfolding SpellsAddress
after_prefix word rest o e reads n = (
  (λ is. inr (rest, e, (reads n).0 is)),
  λ s. elim s [
    | inl w ↦ absurd (no_prefix word rest e w)
    | inr p ↦ let same : p.0 ≡ rest = let there = p.1 in cc in
        (reads n).1 (subst (λ l. WritesHex l n) same p.2)
  ],
)

-- the address of a word with no prefix
pub with_no_prefix : (word : List ℕ) (o : Option ℕ) → ((rest : List ℕ) → word ≢ codes "0x" ++ rest) → ((n : ℕ) → (o ≡ Some n) ↔ WritesHex word n)
    → (n : ℕ) → (o ≡ Some n) ↔ SpellsAddress word n
unfolding SpellsAddress
with_no_prefix word o lacks reads n =
    ((λ is. inl ((reads n).0 is)), λ s. elim s [ inl w ↦ (reads n).1 w | inr p ↦ absurd (lacks p.0 p.1) ])
