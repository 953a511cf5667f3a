-- A number after others: above all of its family, or not.
use Rattle.std.proofs.Common.{◌≡◌, ◌≢◌, ℕ, ◌<◌, ◌≤◌, Bool, true, false, List, [], ◌∷◌, length, get_or, map}
use Rattle.std.proofs.Common.{refl, sym, ap, subst, ◌∙◌, inl, inr, All, Any, MatchBool, ltb, arith}
use Rattle.std.proofs.lemmas.Bool.{cases_lt, ltb-true, ltb-false}
use Rattle.std.proofs.lemmas.List.{get_or-map, length-map}
use Rattle.minidump_reason.specs.declared.family.CodeFamily.{CodeFamily}
use Rattle.minidump_names.specs.declared.line.Listing.{Listing as Lent}
use Rattle.minidump_names.specs.NameLine.{Listing, listing_of}
use Rattle.minidump_names.specs.NamesText.{InOrder}

-- each number of a family is below this one
abbrev Above : List Listing → CodeFamily → ℕ → Type 0
Above ls f n = All (λ e. e.family ≡ f → e.number < n) ls

abbrev NotAbove : List Listing → CodeFamily → ℕ → Type 0
NotAbove ls f n = Any (λ e. (e.family ≡ f) × (n ≤ e.number)) ls

module _ (ls : List Listing) (f : CodeFamily) (n i : ℕ) (y : Listing) (order : InOrder ls) (inside : i < length ls)
    (there : (d : Listing) → get_or ls i d ≡ y) (same : y.family ≡ f)
    (later : (k : ℕ) (d : Listing) → i < k → k < length ls → (get_or ls k d).family ≢ f) where
  above : y.number < n → Above ls f n
  above less k d within is = elim (cases_lt k i) [
    | inl before ↦
        (let step = order k i d before inside (is ∙ sym same ∙ ap (λ (e : Listing). e.family) (sym (there d))) in
        let number : (get_or ls i d).number ≡ y.number = ap (λ (e : Listing). e.number) (there d) in
        omega (arith, step, number, less))
    | inr after ↦ elim (cases_lt i k) [
      | inl past ↦ absurd (later k d past within is)
      | inr here ↦
          (let at : i ≡ k = omega arith in
          let number : (get_or ls i d).number ≡ y.number = ap (λ (e : Listing). e.number) (there d) in
          subst (λ (m : ℕ). (get_or ls m d).number < n) at (omega (arith, number, less)))
    ]
  ]

  pub above_or_not : (b : Bool) → ltb y.number n ≡ b → MatchBool b (Above ls f n) (NotAbove ls f n)
  above_or_not true e = above (ltb-true _ _ e)
  above_or_not false e = (i, y, inside, there y, (same, ltb-false _ _ e))

pub above_here : (xs : List Lent) (f : CodeFamily) (n i : ℕ) (d : Lent) → InOrder (map listing_of xs) → i < length xs → (get_or xs i d).family ≡ f
    → ((k : ℕ) (d : Lent) → i < k → k < length xs → (get_or xs k d).family ≢ f)
    → MatchBool (ltb (get_or xs i d).number n) (Above (map listing_of xs) f n) (NotAbove (map listing_of xs) f n)
above_here xs f n i d order inside same later =
    above_or_not (map listing_of xs) f n i (listing_of (get_or xs i d)) order (omega (arith, inside, length-map xs listing_of))
    (λ e. get_or-map listing_of xs i d e inside) same
    (λ k e past within is.
    let k_in : k < length xs = omega (arith, within, length-map xs listing_of) in
    later k d past k_in (ap (λ (l : Listing). l.family) (sym (get_or-map listing_of xs k d e k_in)) ∙ is))
    (ltb (get_or xs i d).number n) refl

pub above_all : (xs : List Lent) (f : CodeFamily) (n : ℕ) → ((k : ℕ) (d : Lent) → k < length xs → (get_or xs k d).family ≢ f)
    → Above (map listing_of xs) f n
above_all [] f n none k e within is = absurd (omega (arith, within))
above_all (x ∷ xs) f n none k e within is =
    let inside : k < length (x ∷ xs) = omega (arith, within, length-map (x ∷ xs) listing_of) in
    absurd (none k x inside (ap (λ (l : Listing). l.family) (sym (get_or-map listing_of (x ∷ xs) k x e inside)) ∙ is))
