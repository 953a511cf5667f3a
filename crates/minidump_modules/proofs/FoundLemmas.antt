-- The modules at indices, one after another, and the first of them that passes a test.
use Rattle.std.proofs.Common.{◌≡◌, ℕ, suc, ◌+◌, ◌-◌, ◌<◌, ◌≤◌, Bool, false, List, [], ◌∷◌, ◌++◌, length, get_or, take, drop, map, refl, ap, sym, ◌∙◌}
use Rattle.std.proofs.Common.{arith, inl, inr}
use Rattle.std.specs.Prelude.{Option, Some, None, filter}
use Rattle.std.specs.List.{cons_option, position, position_or_len}
use Rattle.std.proofs.lemmas.Grind.{common_steps}
use Rattle.std.proofs.lemmas.List.{get_or-take, length-take, take-append-drop}
use Rattle.std.proofs.lemmas.List.Elements.{filter-append, filter_more}
use Rattle.std.proofs.lemmas.List.Quantifiers.{position-Some}
use Rattle.std.proofs.lemmas.List.Sums.{fails_before_first}
use Rattle.std.proofs.lemmas.Option.{slice_get_cases}
use Rattle.minidump_index.proofs.RegionsLemmas.{fewer_after_first, first_region}
use Rattle.minidump_modules.specs.declared.unloaded_order.IndexedRange.{IndexedRange}
use Rattle.minidump_modules.proofs.RestLemmas.{rest_all}
use Rattle.minidump_modules.specs.UnloadedOrder.{IsInside, modules_of_order}

-- nothing is kept where each fails
none_kept : {X : Type 0} (p : X → Bool) (xs : List X) → ((k : ℕ) (d : X) → k < length xs → p (get_or xs k d) ≡ false) → filter p xs ≡ []
none_kept p [] h = refl
none_kept p (x ∷ xs) h = let first : p x ≡ false = h 0 x (omega arith) in rw first (none_kept p xs (λ k d lt. h (suc k) d (omega (arith, lt))))

past : {X : Type 0} (p : X → Bool) (xs : List X) → position p xs ≡ None → length xs ≤ position_or_len p xs
past p xs e = grind (arith, common_steps)

-- nor where no first one passes
pub none_passes : {X : Type 0} (p : X → Bool) (xs : List X) → position p xs ≡ None → filter p xs ≡ []
none_passes p xs e = let far = past p xs e in none_kept p xs (λ k d lt. fails_before_first p xs k d (omega (arith, lt, far)))

-- the first that passes is the first that is kept; what is left is a slice from the index after it
pub first_passes : {X : Type 0} (p : X → Bool) (xs : List X) (i : ℕ) (d : X) → position p xs ≡ Some i
    → filter p xs ≡ get_or xs i d ∷ filter p (take (length xs - (i + 1)) (drop (i + 1) xs))
first_passes p xs i d e =
    let at = position-Some p xs i d e in
    let before : filter p (take i xs) ≡ [] = none_kept p (take i xs) (λ k c lt.
    let near : k < i = omega (arith, lt, length-take i xs) in
    rw (get_or-take i xs k c near) ((position-Some p xs i c e).2 k near)) in
    let split : filter p xs ≡ filter p (take (i + 1) xs) ++ filter p (drop (i + 1) xs) =
    ap (filter p) (sym (take-append-drop (i + 1) xs)) ∙ filter-append p (take (i + 1) xs) (drop (i + 1) xs) in
    split ∙ rw (filter_more p xs i d at.0, at.1, before, rest_all (i + 1) xs) refl

module _ {M : Type 0} (modules : List M) where
  -- the module of the first index
  pub first_module : (m : M) (e : IndexedRange) (all rest : List IndexedRange) → all ≡ e ∷ rest → e.index < length modules → m ≡ get_or modules e.index m
      → modules_of_order modules all ≡ m ∷ modules_of_order modules rest
  first_module m e all rest is lt at =
      first_region modules m e.index (map (λ e. e.index) all) (map (λ e. e.index) rest) (ap (map (λ (e : IndexedRange). e.index)) is) lt at

  pub fewer : (m : M) (e : IndexedRange) (all rest : List IndexedRange) → all ≡ e ∷ rest → e.index < length modules → m ≡ get_or modules e.index m
      → length (modules_of_order modules rest) < length (modules_of_order modules all)
  fewer m e all rest is lt at =
      fewer_after_first modules m e.index (map (λ e. e.index) all) (map (λ e. e.index) rest) (ap (map (λ (e : IndexedRange). e.index)) is) lt at

  pub first_inside : (e : IndexedRange) (all rest : List IndexedRange) → all ≡ e ∷ rest → IsInside modules all → e.index < length modules
  first_inside e all rest is h = (rw is at h) 0 e (omega arith)

  pub rest_inside : (e : IndexedRange) (all rest : List IndexedRange) → all ≡ e ∷ rest → IsInside modules all → IsInside modules rest
  rest_inside e all rest is h = λ k d lt. (rw is at h) (suc k) d (omega (arith, lt))

  -- as many modules as indices
  pub length-modules : (order : List IndexedRange) → IsInside modules order → length (modules_of_order modules order) ≡ length order
  length-modules [] h = refl
  length-modules (e ∷ es) h = elim (slice_get_cases modules e.index).1 [
    | inl found ↦ ap (λ (o : Option M). length (cons_option o (modules_of_order modules es))) found.2
        ∙ ap suc (length-modules es (rest_inside e (e ∷ es) es refl h))
    | inr none ↦ absurd (let lt = first_inside e (e ∷ es) es refl h in omega (arith, lt, none.0))
  ]
