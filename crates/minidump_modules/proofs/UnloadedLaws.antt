-- What the order of unloaded modules, and the modules at an address, say of a list.
use Rattle.std.proofs.Common.{◌≡◌, ℕ, ◌<◌, ◌≤◌, ◌⊎◌, Bool, true, false, List, [], ◌∷◌, map, refl, ap, sym, subst, ◌∙◌, inl, inr, arith, slice_get}
use Rattle.std.specs.Prelude.{◌↔◌, Option, Some, None, AllPairs, Contains, filter}
use Rattle.std.specs.List.{cons_option}
use Rattle.std.specs.Option.{option_map}
use Rattle.std.proofs.lemmas.Bool.{cases_Bool}
use Rattle.std.proofs.lemmas.Bool.Decides.{nat_tests}
use Rattle.std.proofs.lemmas.List.Kept.{AllPairs-cons, AllPairs-filter}
use Rattle.std.proofs.lemmas.Option.{get_or_from_slice_get, slice_get-get_or, slice_get-map, slice_get_within}
use Rattle.minidump_index.specs.declared.range.Range.{Range}
use Rattle.minidump_index.specs.Lookup.{HasAddress}
use Rattle.minidump_index.specs.Overlap.{HasRange, IsIn}
use Rattle.minidump_index.proofs.ContainsLemmas.{all_from, cases, first_pairs, head, nothing, rest_pairs, tail}
use Rattle.minidump_modules.specs.declared.unloaded_order.IndexedRange.{IndexedRange}
use Rattle.minidump_modules.specs.UnloadedModule.{UnloadedValue, range_of_unloaded}
use Rattle.minidump_modules.specs.UnloadedOrder.{HasUnloadedLaws, IsOrderOf, Precedes, StartsBefore, has, modules_of_order}
use Rattle.minidump_modules.proofs.SameListLemmas.{same_list}

-- ---- one order
one_way : (e f : IndexedRange) → Precedes e f → Precedes f e → ⊥
one_way e f (inl a) (inl b) = omega arith
one_way e f (inl a) (inr b) = omega (arith, b.0)
one_way e f (inr a) (inl b) = omega (arith, a.0)
one_way e f (inr (a, inl b)) (inr (c, inl d)) = omega arith
one_way e f (inr (a, inl b)) (inr (c, inr d)) = omega (arith, d.0)
one_way e f (inr (a, inr b)) (inr (c, inl d)) = omega (arith, b.0)
one_way e f (inr (a, inr b)) (inr (c, inr d)) = omega (arith, b.1, d.1)

starts : (e f : IndexedRange) → Precedes e f → (e.range.start < f.range.start) ⊎ ((e.range.start ≡ f.range.start) × (e.range.end ≤ f.range.end))
starts e f (inl a) = inl a
starts e f (inr (a, inl b)) = inr (a, omega arith)
starts e f (inr (a, inr b)) = inr (a, omega (arith, b.0))

has_there : (address : ℕ) (e : IndexedRange) → has address e ≡ true → IsIn address e.range
has_there address e h = (grind (arith, nat_tests), grind (arith, nat_tests))

there_has : (address : ℕ) (e : IndexedRange) → IsIn address e.range → has address e ≡ true
there_has address e (a, b) = grind (arith, nat_tests)

-- what is kept of a list is of it and passes
kept_from : (p : IndexedRange → Bool) (es : List IndexedRange) (e : IndexedRange) → Contains (filter p es) e → Contains es e × (p e ≡ true)
kept_from p [] e h = absurd (nothing e h)
kept_from p (f ∷ fs) e h = elim (cases_Bool (p f)) [
  | inl t ↦ elim (cases f (filter p fs) e (rw t at h)) [
    | inl same ↦ subst (λ (x : IndexedRange). Contains (f ∷ fs) x × (p x ≡ true)) same (head f fs, t)
    | inr more ↦ (let k = kept_from p fs e more in (tail f fs e k.0, k.1))
  ]
  | inr t ↦ (let k = kept_from p fs e (rw t at h) in (tail f fs e k.0, k.1))
]

kept_to : (p : IndexedRange → Bool) (es : List IndexedRange) (e : IndexedRange) → Contains es e → p e ≡ true → Contains (filter p es) e
kept_to p [] e h t = absurd (nothing e h)
kept_to p (f ∷ fs) e h t = elim (cases_Bool (p f)) [
  | inl s ↦ rw s (elim (cases f fs e h) [
    | inl same ↦ subst (Contains (f ∷ filter p fs)) same (head f (filter p fs))
    | inr more ↦ tail f (filter p fs) e (kept_to p fs e more t)
  ])
  | inr s ↦ rw s (elim (cases f fs e h) [
    | inl same ↦ absurd (let no : p e ≡ false = ap p (sym same) ∙ s in let b : ⊥ = cc in b)
    | inr more ↦ kept_to p fs e more t
  ])
]

module _ (modules : List UnloadedValue) where
  abbrev Ranges : List (Option Range)
  Ranges = map range_of_unloaded modules

  pub same_order : (a b : List IndexedRange) → IsOrderOf Ranges a → IsOrderOf Ranges b → a ≡ b
  same_order a b of_a of_b = same_list Precedes one_way a b of_a.ascending of_b.ascending
      (λ e. ((λ h. (of_b.members e).1 ((of_a.members e).0 h)), (λ h. (of_a.members e).1 ((of_b.members e).0 h))))

  -- ---- the module at an index
  record IsAt (e : IndexedRange) (m : UnloadedValue) : Type 0 where
    at : slice_get modules e.index ≡ Some m
    range : range_of_unloaded m ≡ Some e.range

  read : (e : IndexedRange) (o : Option UnloadedValue) → slice_get modules e.index ≡ o → HasRange Ranges e.index e.range → (m : UnloadedValue) × IsAt e m
  read e (Some m) at h = let same : Some (range_of_unloaded m) ≡ Some (Some e.range) = ap (option_map range_of_unloaded) (sym at)
      ∙ sym (slice_get-map range_of_unloaded modules e.index) ∙ h in
      (m, record { at = at; range = cc })
  read e None at h = let same : None ≡ Some (Some e.range) = ap (option_map range_of_unloaded) (sym at)
      ∙ sym (slice_get-map range_of_unloaded modules e.index) ∙ h in absurd (let b : ⊥ = cc in b)

  module_at : (e : IndexedRange) → HasRange Ranges e.index e.range → (m : UnloadedValue) × IsAt e m
  module_at e h = read e (slice_get modules e.index) refl h

  -- a module of the list that has a range stands at an index
  index_of : (m : UnloadedValue) (r : Range) → Contains modules m → range_of_unloaded m ≡ Some r
      → (e : IndexedRange) × HasRange Ranges e.index e.range × IsAt e m × (e.range ≡ r)
  index_of m r (k, within, at) range =
      let there : slice_get modules k ≡ Some m = slice_get-get_or modules k m within ∙ ap (λ (x : UnloadedValue). Some x) at in
      let has : HasRange Ranges k r = slice_get-map range_of_unloaded modules k ∙ ap (option_map range_of_unloaded) there
      ∙ ap (λ (o : Option Range). Some o) range in
      (record { range = r; index = k }, has, record { at = there; range = range }, refl)

  -- ---- the modules of an order
  one_more : (e : IndexedRange) (m : UnloadedValue) (es : List IndexedRange) → IsAt e m → modules_of_order modules (e ∷ es) ≡ m ∷ modules_of_order modules es
  one_more e m es at = ap (λ (o : Option UnloadedValue). cons_option o (modules_of_order modules es)) at.at

  abbrev AllHave : List IndexedRange → Type 0
  AllHave es = (e : IndexedRange) → Contains es e → HasRange Ranges e.index e.range

  from_order : (es : List IndexedRange) (m : UnloadedValue) → AllHave es → Contains (modules_of_order modules es) m → (e : IndexedRange) × Contains es e × IsAt e m
  from_order [] m has h = absurd (nothing m h)
  from_order (e ∷ es) m has h =
      let n = module_at e (has e (head e es)) in
      elim (cases n.0 (modules_of_order modules es) m (subst (λ (ms : List UnloadedValue). Contains ms m) (one_more e n.0 es n.1) h)) [
        | inl same ↦ (e, head e es, subst (IsAt e) same n.1)
        | inr more ↦ (let f = from_order es m (λ f k. has f (tail e es f k)) more in (f.0, tail e es f.0 f.1, f.2))
      ]

  into_order : (es : List IndexedRange) (e : IndexedRange) (m : UnloadedValue) → AllHave es → Contains es e → IsAt e m → Contains (modules_of_order modules es) m
  into_order [] e m has h at = absurd (nothing e h)
  into_order (f ∷ fs) e m has h at =
      let n = module_at f (has f (head f fs)) in
      let more : modules_of_order modules (f ∷ fs) ≡ n.0 ∷ modules_of_order modules fs = one_more f n.0 fs n.1 in
      subst (λ (ms : List UnloadedValue). Contains ms m) (sym more) (elim (cases f fs e h) [
        | inl same ↦ (let one : n.0 ≡ m = (let a = n.1.at in let b = at.at in let c = ap (λ (x : IndexedRange). slice_get modules x.index) same in
            let s : Some n.0 ≡ Some m = sym a ∙ c ∙ b in cc) in
            subst (Contains (n.0 ∷ modules_of_order modules fs)) one (head n.0 (modules_of_order modules fs)))
        | inr rest ↦ tail n.0 (modules_of_order modules fs) m (into_order fs e m (λ x k. has x (tail f fs x k)) rest at)
      ])

  ascend : (es : List IndexedRange) → AllHave es → AllPairs Precedes es → AllPairs StartsBefore (modules_of_order modules es)
  ascend [] has up = λ i j d lt within. absurd (omega arith)
  ascend (e ∷ es) has up =
      let n = module_at e (has e (head e es)) in
      subst (AllPairs StartsBefore) (sym (one_more e n.0 es n.1))
      (AllPairs-cons StartsBefore n.0 (modules_of_order modules es)
      (all_from (StartsBefore n.0) (modules_of_order modules es) (λ m h.
      let f = from_order es m (λ f k. has f (tail e es f k)) h in
      (e.range, f.0.range, n.1.range, f.2.range, starts e f.0 (first_pairs Precedes e es up f.0 f.1))))
      (ascend es (λ f k. has f (tail e es f k)) (rest_pairs Precedes e es up)))

  module _ (order : List IndexedRange) (is : IsOrderOf Ranges order) where
    all_have : AllHave order
    all_have e h = (is.members e).0 h

    pub with_ranges : (m : UnloadedValue) → Contains (modules_of_order modules order) m ↔ (Contains modules m × ((r : Range) × (range_of_unloaded m ≡ Some r)))
    with_ranges m = (
      (λ h. let e = from_order order m all_have h in
          ((e.0.index, slice_get_within modules e.0.index m e.2.at, get_or_from_slice_get modules e.0.index m m e.2.at), (e.0.range, e.2.range))),
      (λ h. let e = index_of m h.1.0 h.0 h.1.1 in into_order order e.0 m all_have ((is.members e.0).1 e.1) e.2),
    )

    kept_have : (address : ℕ) → AllHave (filter (has address) order)
    kept_have address e h = all_have e (kept_from (has address) order e h).0

    pub found : (address : ℕ) (m : UnloadedValue)
        → Contains (modules_of_order modules (filter (has address) order)) m ↔ (Contains modules m × HasAddress range_of_unloaded address m)
    found address m = (
      (λ h. let e = from_order (filter (has address) order) m (kept_have address) h in
          let k = kept_from (has address) order e.0 e.1 in (
            (e.0.index, slice_get_within modules e.0.index m e.2.at, get_or_from_slice_get modules e.0.index m m e.2.at),
            (e.0.range, e.2.range, has_there address e.0 k.1),
          )),
      (λ h. let e = index_of m h.1.0 h.0 h.1.1 in
          into_order (filter (has address) order) e.0 m (kept_have address)
          (kept_to (has address) order e.0 ((is.members e.0).1 e.1) (there_has address e.0 (subst (IsIn address) (sym e.3) h.1.2))) e.2),
    )

pub unloaded_laws : (modules : List UnloadedValue) → HasUnloadedLaws modules
unloaded_laws modules = record {
  one_order = λ given other a b. a.2 ∙ ap (modules_of_order modules) (same_order modules a.0 b.0 a.1 b.1) ∙ sym b.2;
  with_ranges = λ given m o. rw o.2 (with_ranges modules o.0 o.1 m);
  ascending = λ given o. rw o.2 (ascend modules o.0 (all_have modules o.0 o.1) o.1.ascending);
  one_answer = λ address given other a b. a.2 ∙ ap (λ (es : List IndexedRange). modules_of_order modules (filter (has address) es))
      (same_order modules a.0 b.0 a.1 b.1) ∙ sym b.2;
  found = λ address given m o. rw o.2 (found modules o.0 o.1 address m);
  found_ascend = λ address given o. rw o.2 (ascend modules (filter (has address) o.0) (kept_have modules o.0 o.1 address)
      (AllPairs-filter Precedes (has address) o.0 o.1.ascending));
}
