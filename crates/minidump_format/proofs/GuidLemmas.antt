-- The bytes of a GUID, by the numbers that they spell.
use Rattle.std.proofs.Common.{◌≡◌, ℕ, ◌+◌, ◌<◌, ◌++◌, List, All, length, get_or, take, drop, sym, ap, ◌∙◌, arith, inl, inr}
use Rattle.std.specs.Int.{from_be_bytes, to_be_bytes, w16, w32}
use Rattle.std.proofs.lemmas.Bool.{cases_lt}
use Rattle.std.proofs.lemmas.List.{get_or_past, get_or-drop, get_or-take, length-take, length-drop, take-append-drop, drop-drop}
use Rattle.std.proofs.lemmas.Nat.{be_bytes_2, be_bytes_4}

abbrev Fit : List ℕ → Type 0
Fit xs = (i : ℕ) → get_or xs i 0 < 256

fit : (xs : List ℕ) → All (λ b. b < 256) xs → Fit xs
fit xs h i = elim (cases_lt i (length xs)) [
  | inl lt ↦ h i 0 lt
  | inr ge ↦ rw (get_or_past xs i 0 ge) (omega arith)
]

fit_drop : (n : ℕ) (xs : List ℕ) → Fit xs → Fit (drop n xs)
fit_drop n xs h i = rw (get_or-drop n xs i 0) (h (n + i))

fit_take : (n : ℕ) (xs : List ℕ) → Fit xs → Fit (take n xs)
fit_take n xs h i = elim (cases_lt i n) [
  | inl lt ↦ rw (get_or-take n xs i 0 lt) (h i)
  | inr ge ↦ rw (get_or_past (take n xs) i 0 (rw (length-take) (omega arith))) (omega arith)
]

pub guid_spells : (r : List ℕ) (a b c : ℕ) (d : List ℕ) → length r ≡ 16 → All (λ x. x < 256) r
    → from_be_bytes w32 (take 4 r) ≡ a → from_be_bytes w16 (take 2 (drop 4 r)) ≡ b → from_be_bytes w16 (take 2 (drop 6 r)) ≡ c → drop 8 r ≡ d
    → r ≡ to_be_bytes w32 a ++ (to_be_bytes w16 b ++ (to_be_bytes w16 c ++ d))
guid_spells r a b c d len all ea eb ec ed =
    let f = fit r all in
    let one : to_be_bytes w32 a ≡ take 4 r = be_bytes_4 (take 4 r) a (rw (length-take) (omega (arith, len))) (fit_take 4 r f) (sym ea) in
    let two : to_be_bytes w16 b ≡ take 2 (drop 4 r) = be_bytes_2 (take 2 (drop 4 r)) b (rw (length-take, length-drop) (omega (arith, len)))
    (fit_take 2 (drop 4 r) (fit_drop 4 r f)) (sym eb) in
    let three : to_be_bytes w16 c ≡ take 2 (drop 6 r) = be_bytes_2 (take 2 (drop 6 r)) c (rw (length-take, length-drop) (omega (arith, len)))
    (fit_take 2 (drop 6 r) (fit_drop 6 r f)) (sym ec) in
    let last : drop 2 (drop 6 r) ≡ d = drop-drop 2 6 r ∙ ed in
    let third : drop 6 r ≡ to_be_bytes w16 c ++ d = sym (take-append-drop 2 (drop 6 r)) ∙ ap (λ l. take 2 (drop 6 r) ++ l) last
    ∙ ap (λ l. l ++ d) (sym three) in
    let second : drop 4 r ≡ to_be_bytes w16 b ++ (to_be_bytes w16 c ++ d) =
    sym (take-append-drop 2 (drop 4 r)) ∙ ap (λ l. take 2 (drop 4 r) ++ l) (drop-drop 2 4 r ∙ third) ∙ ap (λ l. l ++ (to_be_bytes w16 c ++ d)) (sym two) in
    sym (take-append-drop 4 r) ∙ ap (λ l. take 4 r ++ l) second ∙ ap (λ l. l ++ (to_be_bytes w16 b ++ (to_be_bytes w16 c ++ d))) (sym one)
