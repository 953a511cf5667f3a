-- The last item that is chosen, among one item more, and of the values of items.
use Rattle.std.specs.Option.{option_map, option_or}
use Rattle.std.specs.Prelude.{if◌then◌else◌}
use Rattle.std.proofs.Common.{◌≡◌, ◌∙◌, ◌<◌, ◌+◌, ◌++◌, ◌∷◌, [], ℕ, suc, Bool, true, false, List, Option, Some, None, add-one, ap, arith, get_or, length, map, refl, take}
use Rattle.std.proofs.lemmas.List.{length-take-le, take_more}
use Rattle.crash_threads.specs.Last.{IsLastIndex, last_index}

module _ {X : Type 0} (test : X → Bool) where
  after_first : (b : Bool) (n : ℕ) (o p : Option ℕ) → option_or (option_map (λ i. i + 1) (if b then Some n else o)) p
      ≡ (if b then Some (suc n) else option_or (option_map (λ i. i + 1) o) p)
  after_first true n o p = ap Some (add-one n)
  after_first false n o p = refl

  one_more : (xs : List X) (x : X) → last_index test (xs ++ (x ∷ [])) ≡ (if test x then Some (length xs) else last_index test xs)
  one_more [] x = refl
  one_more (y ∷ ys) x = rw (one_more ys x) (after_first (test x) (length ys) (last_index test ys) (if test y then Some 0 else None))

  -- the item at an index, or the last one before it, is the last one as far as that index
  pub next_index : (xs : List X) (i : ℕ) (x : X) (before after : Option ℕ) (b : Bool) → i < length xs → x ≡ get_or xs i x
      → before ≡ last_index test (take i xs) → b ≡ test x → after ≡ (if b then Some i else before)
      → after ≡ last_index test (take (i + 1) xs)
  next_index xs i x before after b within at found chosen step =
      let many : length (take i xs) ≡ i = length-take-le i xs (omega arith) in
      rw (take_more xs i x within, ← at, one_more (take i xs) x, many, ← found, ← chosen) step

module _ {X V : Type 0} (value : X → V) (test : V → Bool) where
  last_value : (xs : List X) → last_index (λ x. test (value x)) xs ≡ last_index test (map value xs)
  last_value [] = refl
  last_value (x ∷ xs) = rw (last_value xs) refl

  -- the last item whose value is chosen is the last of the values that is
  pub among_values : {IsChosen : X → Bool → Type 0} {index : Option ℕ} (xs : List X) {values : List V} → IsLastIndex IsChosen xs index
      → ((x : X) (b : Bool) → IsChosen x b → b ≡ test (value x)) → map value xs ≡ values → index ≡ last_index test values
  among_values xs is_last tells same = is_last (λ x. test (value x)) tells ∙ last_value xs ∙ ap (last_index test) same
