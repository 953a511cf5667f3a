-- There is one list of the same members in an order that no two members have both ways.
use Rattle.std.proofs.Common.{◌≡◌, List, [], ◌∷◌, ap, sym, subst, ◌∙◌, refl, inl, inr}
use Rattle.std.specs.Prelude.{◌↔◌, AllPairs, Contains}
use Rattle.minidump_index.proofs.ContainsLemmas.{cases, first_pairs, head, nothing, rest_pairs, tail}

module _ {A : Type 0} (Before : A → A → Type 0) (one_way : (x y : A) → Before x y → Before y x → ⊥) where
  same_first : (p q : A) (ps qs : List A) → AllPairs Before (p ∷ ps) → AllPairs Before (q ∷ qs) → ((x : A) → Contains (p ∷ ps) x ↔ Contains (q ∷ qs) x) → p ≡ q
  same_first p q ps qs a b same = elim (cases p ps q ((same q).1 (head q qs))) [
    | inl here ↦ here
    | inr after ↦ elim (cases q qs p ((same p).0 (head p ps))) [
      | inl here ↦ sym here
      | inr before ↦ absurd (one_way p q (first_pairs Before p ps a q after) (first_pairs Before q qs b p before))
    ]
  ]

  -- a member of the rest of one list is one of the rest of the other
  in_rest : (p q : A) (ps qs : List A) → AllPairs Before (p ∷ ps) → p ≡ q → ((x : A) → Contains (p ∷ ps) x → Contains (q ∷ qs) x) → (x : A) → Contains ps x
      → Contains qs x
  in_rest p q ps qs a here same x h = elim (cases q qs x (same x (tail p ps x h))) [
    | inl it ↦ absurd (let self : Before x x = subst (λ (y : A). Before y x) (here ∙ it) (first_pairs Before p ps a x h) in one_way x x self self)
    | inr more ↦ more
  ]

  pub same_list : (ps qs : List A) → AllPairs Before ps → AllPairs Before qs → ((x : A) → Contains ps x ↔ Contains qs x) → ps ≡ qs
  same_list [] [] a b same = refl
  same_list [] (q ∷ qs) a b same = absurd (nothing q ((same q).1 (head q qs)))
  same_list (p ∷ ps) [] a b same = absurd (nothing p ((same p).0 (head p ps)))
  same_list (p ∷ ps) (q ∷ qs) a b same =
      let here : p ≡ q = same_first p q ps qs a b same in
      let more : ps ≡ qs = same_list ps qs (rest_pairs Before p ps a) (rest_pairs Before q qs b)
      (λ x. (in_rest p q ps qs a here (λ y. (same y).0) x, in_rest q p qs ps b (sym here) (λ y. (same y).1) x)) in
      ap (λ (x : A). x ∷ ps) here ∙ ap (λ (xs : List A). q ∷ xs) more
