-- What comes after the last separator of a path, or all of a path that has none.
use Rattle.std.proofs.Common.{◌≡◌, ℕ, ◌-◌, ◌<◌, ◌≤◌, arith, Bool, true, false, not, drop, get_or, length, List, [], ◌∷◌, ap, refl, ◌∙◌, get_or-drop, length-drop}
use Rattle.std.specs.List.{after_last}
use Rattle.std.specs.Char.{char_set_contains}
use Rattle.std.specs.Str.{NoCharPasses}
use Rattle.std.proofs.lemmas.Bool.Decides.{nat_tests}
use Rattle.std.proofs.lemmas.List.Sums.{suffix_len_is}
use Rattle.std.proofs.lemmas.Str.{NoCharPasses-byte, len_utf8_ascii}
use Rattle.crash_process.proofs.modules.file_name.Goals as goal

abbrev is_separator : ℕ → Bool
is_separator = char_set_contains (0x2f ∷ 0x5c ∷ [])

-- what comes after a separator, or all, where no character of it is one
after_is : (xs : List ℕ) (j : ℕ) → j ≤ length xs → NoCharPasses is_separator (drop j xs) → (0 < j → is_separator (get_or xs (j - 1) 0) ≡ true)
    → drop j xs ≡ after_last is_separator xs
after_is xs j within none before =
    let byte : (k : ℕ) → j ≤ k → k < length xs → is_separator (get_or xs k 0) ≡ false =
    λ k after inside. grind (arith, nat_tests, get_or-drop j xs (k - j) 0, NoCharPasses-byte is_separator (drop j xs) (k - j) none (omega (arith, length-drop j xs))) in
    let fixed = suffix_len_is (λ x. not (is_separator x)) xs j 0 within (λ k after inside. rw (byte k after inside) refl) (λ some. rw (before some) refl) in
    ap (λ n. drop n xs) (omega (arith, fixed))

pub returns-in-Some : goal.returns-in-Some
returns-in-Some c =
    let parts = c.in-Some.ensures.cases in
    let found = parts.2 is_separator (λ c. refl) in
    let low : found.1.0 < 128 = grind (arith, nat_tests, found.1.1) in
    parts.4 ∙ after_is _ parts.1 (omega (arith, parts.7)) found.0
    (λ some. grind (arith, found.1.1, found.1.2.byte low, found.1.2.ends, len_utf8_ascii found.1.0 low))

pub returns-in-None : goal.returns-in-None
returns-in-None c = after_is _ 0 (omega arith) (c.in-None.ensures.cases is_separator (λ c. refl)) (λ some. absurd (omega (arith, some)))
