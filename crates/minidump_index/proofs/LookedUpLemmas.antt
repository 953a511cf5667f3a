-- `looked_up` is an answer that `IsLookedUp` allows, by induction on the address.
use Rattle.std.proofs.Common.{◌≡◌, ℕ, zero, suc, ◌<◌, ◌≤◌, ◌⊎◌, Bool, true, false, List, [], ◌∷◌, map, arith, ap, refl, subst, sym, ◌∙◌, inl, inr}
use Rattle.std.specs.Prelude.{Option, Some, None, MatchOption, slice_get, nat_le, ◌==◌, ◌&&◌}
use Rattle.std.specs.Option.{option_map}
use Rattle.std.proofs.lemmas.Bool.{and_from, and_parts, cases_lt, eq-eqb, eqb-true, le-leb, leb-true, leb-false}
use Rattle.std.proofs.lemmas.Option.{slice_get-map}
use Rattle.minidump_index.specs.declared.range.Range.{Range}
use Rattle.minidump_index.specs.Overlap.{HasRange, IsBefore, IsKeptSet, ShareAddress}
use Rattle.minidump_index.specs.Lookup.{IsLookedUp, KeptAt, first_at, first_to_end, last_address, looked_up, or_next}
use Rattle.minidump_index.proofs.AddressOrder.{one_index}

some_range : (r s : Range) → Some (Some r) ≡ Some (Some s) → r ≡ s
some_range r s h = cc

-- ---- the first of those that start at an address
module _ {R : Type 0} (range : R → Option Range) (address : ℕ) where
  -- a range is no earlier than another of the same start: by end, then by index
  abbrev IsNoLater : Range → ℕ → Range → ℕ → Type 0
  IsNoLater r i s j = (r.end < s.end) ⊎ ((r.end ≡ s.end) × (i ≤ j))

  abbrev NoneStarts : List R → Type 0
  NoneStarts regions = (index : ℕ) (r : Range) → HasRange (map range regions) index r → r.start ≡ address → ⊥

  record Starts (regions : List R) (region : R) : Type 0 where
    index : ℕ
    own : Range
    at : slice_get regions index ≡ Some region
    has : range region ≡ Some own
    starts : own.start ≡ address
    first : (other : ℕ) (s : Range) → HasRange (map range regions) other s → s.start ≡ address → IsNoLater own index s other

  abbrev IsFirst : List R → Option R → Type 0
  IsFirst regions o = MatchOption o (NoneStarts regions) (Starts regions)

  -- a region before that doesn't start here changes nothing
  none_behind : (x : R) (xs : List R) → ((r : Range) → range x ≡ Some r → r.start ≡ address → ⊥) → NoneStarts xs → NoneStarts (x ∷ xs)
  none_behind x xs not none zero r h starts = let same : range x ≡ Some r = cc in not r same starts
  none_behind x xs not none (suc k) r h starts = none k r h starts

  behind : (x : R) (xs : List R) (o : Option R) → ((r : Range) → range x ≡ Some r → r.start ≡ address → ⊥) → IsFirst xs o → IsFirst (x ∷ xs) o
  behind x xs None not none = none_behind x xs not none
  behind x xs (Some y) not s = record {
    index = suc s.index;
    own = s.own;
    at = s.at;
    has = s.has;
    starts = s.starts;
    first = later;
  }
    where
      later : (other : ℕ) (r : Range) → HasRange (map range (x ∷ xs)) other r → r.start ≡ address → IsNoLater s.own (suc s.index) r other
      later zero r h starts = let same : range x ≡ Some r = cc in absurd (not r same starts)
      later (suc k) r h starts = elim (s.first k r h starts) [
        | inl end ↦ inl end
        | inr both ↦ inr (both.0, omega (arith, both.1))
      ]

  -- a region that starts here stands before those behind it that end no earlier
  ahead : (x : R) (xs : List R) (r : Range) → range x ≡ Some r → r.start ≡ address
      → ((k : ℕ) (s : Range) → HasRange (map range xs) k s → s.start ≡ address → r.end ≤ s.end) → Starts (x ∷ xs) x
  ahead x xs r has starts low = record {
    index = 0;
    own = r;
    at = refl;
    has = has;
    starts = starts;
    first = first;
  }
    where
      first : (other : ℕ) (s : Range) → HasRange (map range (x ∷ xs)) other s → s.start ≡ address → IsNoLater r 0 s other
      first zero s h at = let same : r ≡ s = some_range r s (ap (λ (o : Option Range). Some o) (sym has) ∙ h) in inr (ap (λ (y : Range). y.end) same, omega arith)
      first (suc k) s h at = elim (cases_lt r.end s.end) [
        | inl lt ↦ inl lt
        | inr ge ↦ (let le = low k s h at in inr (omega (arith, le, ge), omega arith))
      ]

  -- the region ends before all that start here behind it
  sooner : (x : R) (xs : List R) (r : Range) → range x ≡ Some r → r.start ≡ address → (o : Option R) → IsFirst xs o
      → Starts (x ∷ xs) (first_to_end range x o)
  sooner x xs r has starts None none = ahead x xs r has starts (λ k s h at. absurd (none k s h at))
  sooner x xs r has starts (Some y) s = go (nat_le r.end s.own.end) refl
    where
      ends : (last_address range x ≡ r.end) × (last_address range y ≡ s.own.end)
      ends = (rw has refl, rw s.has refl)

      go : (b : Bool) → nat_le r.end s.own.end ≡ b → Starts (x ∷ xs) (first_to_end range x (Some y))
      go true is =
          let low = leb-true r.end s.own.end is in
          rw (ends.0, ends.1, is) (ahead x xs r has starts (λ k t h at. elim (s.first k t h at) [
            | inl lt ↦ omega (arith, low, lt)
            | inr both ↦ omega (arith, low, both.0)
          ]))
      go false is =
          let high = leb-false r.end s.own.end is in
          rw (ends.0, ends.1, is) (record {
            index = suc s.index;
            own = s.own;
            at = s.at;
            has = s.has;
            starts = s.starts;
            first = first high;
          })
        where
          first : s.own.end < r.end → (other : ℕ) (t : Range) → HasRange (map range (x ∷ xs)) other t → t.start ≡ address → IsNoLater s.own (suc s.index) t other
          first high zero t h at = let same : r ≡ t = some_range r t (ap (λ (o : Option Range). Some o) (sym has) ∙ h) in inl (subst (λ (z : Range). s.own.end < z.end) same high)
          first high (suc k) t h at = elim (s.first k t h at) [
            | inl end ↦ inl end
            | inr both ↦ inr (both.0, omega (arith, both.1))
          ]

  one_more : (x : R) (xs : List R) → IsFirst xs (first_at range address xs) → IsFirst (x ∷ xs) (first_at range address (x ∷ xs))
  one_more x xs rest = by_range (range x) refl
    where
      by_start : (r : Range) → range x ≡ Some r → (b : Bool) → (r.start == address) ≡ b → IsFirst (x ∷ xs) (first_at range address (x ∷ xs))
      by_start r has true is = rw (has, is) (sooner x xs r has (eqb-true r.start address is) (first_at range address xs) rest)
      by_start r has false is =
          rw (has, is) (behind x xs (first_at range address xs)
          (λ s own starts. let same : r ≡ s = some_range r s (ap (λ (o : Option Range). Some o) (sym has ∙ own)) in
          let yes : (r.start == address) ≡ true = eq-eqb r.start address (ap (λ (z : Range). z.start) same ∙ starts) in
          let no : false ≡ true = sym is ∙ yes in cc) rest)

      by_range : (o : Option Range) → range x ≡ o → IsFirst (x ∷ xs) (first_at range address (x ∷ xs))
      by_range None has = rw has (behind x xs (first_at range address xs) (λ r own starts. let no : None ≡ Some r = sym has ∙ own in cc) rest)
      by_range (Some r) has = by_start r has (r.start == address) refl

  is_first : (regions : List R) → IsFirst regions (first_at range address regions)
  is_first [] = λ index r h starts. let none : None ≡ Some (Some r) = h in cc
  is_first (x ∷ xs) = one_more x xs (is_first xs)

-- ---- the region at an address
module _ {R : Type 0} (range : R → Option Range) (regions : List R) (kept : ℕ → Bool) (is : IsKeptSet (map range regions) kept) where
  abbrev Kept : ℕ → ℕ → Type 0
  Kept address index = KeptAt (map range regions) kept address index

  abbrev IsAt : ℕ → Option R → Type 0
  IsAt address o = MatchOption o ((index : ℕ) → ¬ Kept address index) (λ region. (index : ℕ) × Kept address index × (slice_get regions index ≡ Some region))

  -- where each kept region that has the address starts there
  starts_here : (address : ℕ) → ((index : ℕ) (k : Kept address index) → k.range.start ≡ address) → (o : Option R) → IsFirst range address regions o → IsAt address o
  starts_here address new None none = λ index k. none index k.range k.has (new index k)
  starts_here address new (Some region) s = (
    s.index,
    record {
      range = s.own;
      is_kept = (is s.index).1 (s.own, has, clear);
      has = has;
      inside = (omega (arith, s.starts), omega (arith, s.starts, s.own.ordered));
    },
    s.at,
  )
    where
      has : HasRange (map range regions) s.index s.own
      has = slice_get-map range regions s.index ∙ ap (option_map range) s.at ∙ ap (λ (o : Option Range). Some o) s.has

      clear : (other : ℕ) (earlier : Range) → kept other ≡ true → HasRange (map range regions) other earlier → IsBefore earlier other s.own s.index
          → ShareAddress earlier s.own → ⊥
      clear other earlier other_kept at before (a, in_earlier, in_own) = elim before [
        | inl lt ↦ (let start = new other (record {
          range = earlier;
          is_kept = other_kept;
          has = at;
          inside = (omega (arith, lt, s.starts), omega (arith, s.starts, in_earlier.1, in_own.0));
        }) in omega (arith, lt, s.starts, start))
        | inr same ↦ elim (s.first other earlier at (same.0 ∙ s.starts)) [
          | inl end ↦ elim same.1 [ inl lt ↦ omega (arith, end, lt) | inr last ↦ omega (arith, end, last.0) ]
          | inr both ↦ elim same.1 [ inl lt ↦ omega (arith, both.0, lt) | inr last ↦ omega (arith, both.1, last.1) ]
        ]
      ]

  -- at the address before
  earlier : (before index : ℕ) (k : Kept (suc before) index) → k.range.start ≤ before → Kept before index
  earlier before index k low = record { range = k.range; is_kept = k.is_kept; has = k.has; inside = (low, omega (arith, k.inside.1)) }

  -- a kept region that has an address and not the one before starts there
  starts_new : (before index : ℕ) (k : Kept (suc before) index) → (k.range.start ≤ before → ⊥) → k.range.start ≡ suc before
  starts_new before index k not = elim (cases_lt before k.range.start) [
    | inl lt ↦ omega (arith, lt, k.inside.0)
    | inr le ↦ absurd (not (omega (arith, le)))
  ]

  next : (before : ℕ) (o : Option R) → IsAt before o → IsAt (suc before) (or_next range (suc before) o (first_at range (suc before) regions))
  next before None none =
      starts_here (suc before) (λ index k. starts_new before index k (λ low. none index (earlier before index k low))) _ (is_first range (suc before) regions)
  next before (Some region) (index, k, at) = go (nat_le k.range.start (suc before) && nat_le (suc before) k.range.end) refl
    where
      own : range region ≡ Some k.range
      own = let both : Some (range region) ≡ Some (Some k.range) = ap (option_map range) (sym at) ∙ sym (slice_get-map range regions index) ∙ k.has in cc

      go : (b : Bool) → (nat_le k.range.start (suc before) && nat_le (suc before) k.range.end) ≡ b
          → IsAt (suc before) (or_next range (suc before) (Some region) (first_at range (suc before) regions))
      go true over = rw (own, over) (
        index,
        (let sides = and_parts _ _ over in
            record { range = k.range; is_kept = k.is_kept; has = k.has; inside = (leb-true _ _ sides.0, leb-true _ _ sides.1) }),
        at,
      )
      go false over =
          rw (own, over) (starts_here (suc before) (λ other l. starts_new before other l (λ low.
          let one : other ≡ index = one_index (map range regions) kept before other index is (earlier before other l low) k in
          let same : l.range ≡ k.range = some_range _ _ (sym (subst (λ i. HasRange (map range regions) i l.range) one l.has) ∙ k.has) in
          let yes = and_from _ _ (le-leb k.range.start (suc before) (omega (arith, k.inside.0)))
          (le-leb (suc before) k.range.end (subst (λ (z : Range). suc before ≤ z.end) same l.inside.1)) in
          let no : false ≡ true = sym over ∙ yes in cc)) _ (is_first range (suc before) regions))

  at_each : (address : ℕ) → IsAt address (looked_up range regions address)
  unfolding looked_up
  at_each zero = starts_here 0 (λ index k. omega (arith, k.inside.0)) _ (is_first range 0 regions)
  at_each (suc before) = next before (looked_up range regions before) (at_each before)

pub looked_up_is : {R : Type 0} (range : R → Option Range) (regions : List R) (address : ℕ) → IsLookedUp range regions address (looked_up range regions address)
looked_up_is range regions address kept is = at_each range regions kept is address
