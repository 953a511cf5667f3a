-- The ranges of unloaded modules, one after another, and their sort.
use Rattle.std.proofs.Common.{◌≡◌, ℕ, ◌+◌, ◌<◌, ◌≤◌, ◌⊎◌, false, List, [], ◌∷◌, ◌++◌, length, get_or, map, refl, ap, sym, subst, ◌∙◌, inl, inr, arith}
use Rattle.std.proofs.Common.{slice_get}
use Rattle.std.specs.Prelude.{Bool, ◌==◌, Option, Some, None, AllPairs, Contains}
use Rattle.std.specs.Cmp.{IsTotalOrder}
use Rattle.std.specs.List.{IsDistinct}
use Rattle.std.specs.List.Sorted.{IsPermutation, IsSorted}
use Rattle.std.specs.Ordering.{nat_cmp, ordering_then, is_lt}
use Rattle.std.specs.declared.cmp.Ordering.{Ordering}
use Rattle.std.proofs.lemmas.Bool.{cases_eq, cases_lt, eq-eqb, ne_eqb}
use Rattle.std.proofs.lemmas.Cmp.{then_total, on_total, nat_cmp_total}
use Rattle.std.proofs.lemmas.List.{length-map}
use Rattle.std.proofs.lemmas.List.Elements.{Contains-append_left, Contains-get_or, Contains-push, Contains-push_cases}
use Rattle.std.proofs.lemmas.List.Quantifiers.{all_pairs_push}
use Rattle.std.proofs.lemmas.List.Sorted.{Contains-permutation, IsPermutation-sym, ranks_by, sorted_far}
use Rattle.std.proofs.lemmas.Map.Keys.{IsDistinct-IsPermutation, IsDistinct-from_apart, apart_from_distinct}
use Rattle.std.proofs.lemmas.Option.{slice_get_read}
use Rattle.minidump_index.specs.declared.range.Range.{Range}
use Rattle.minidump_index.specs.Overlap.{HasRange, range_cmp}
use Rattle.minidump_index.proofs.KeptEntries.{by_start}
use Rattle.minidump_index.proofs.RangedEntries.{at_region, entry, in_list, one_range, index_within}
use Rattle.minidump_index.specs.declared.index.Entry.{Entry}
use Rattle.minidump_modules.specs.declared.unloaded_module.MinidumpUnloadedModule.{MinidumpUnloadedModule}
use Rattle.minidump_modules.specs.declared.unloaded_order.IndexedRange.{IndexedRange}
use Rattle.minidump_modules.specs.UnloadedModule.{range_of_unloaded_struct}
use Rattle.minidump_modules.specs.UnloadedOrder.{IsByIndex, IsInOrder, IsInside, IsListedBy, IsOrderOf, Precedes}

-- ---- one after another
abbrev indexed_range : Range → ℕ → IndexedRange
indexed_range r n = record { range = r; index = n }

same_indexed_range : (r s : Range) (m n : ℕ) → r ≡ s → m ≡ n → indexed_range r m ≡ indexed_range s n
same_indexed_range r s m n p q = ap (λ (t : Range). indexed_range t m) p ∙ ap (indexed_range s) q

-- the entries are the indices below n that have a range, by index
pub record AreBelow (modules : List MinidumpUnloadedModule) (n : ℕ) (entries : List IndexedRange) : Type 0 where
  pub into : (e : IndexedRange) → Contains entries e → (e.index < n) × HasRange (map range_of_unloaded_struct modules) e.index e.range
  pub from : (e : IndexedRange) → e.index < n → HasRange (map range_of_unloaded_struct modules) e.index e.range → Contains entries e
  pub rising : AllPairs (λ e f. e.index < f.index) entries

module _ (modules : List MinidumpUnloadedModule) where
  -- what the index n reads as rules out another range there
  none_there : (n : ℕ) (o : Option Range) (e : IndexedRange) → slice_get (map range_of_unloaded_struct modules) n ≡ Some o → o ≡ None → e.index ≡ n
      → HasRange (map range_of_unloaded_struct modules) e.index e.range → ⊥
  none_there n o e r z h k = let there = subst (λ (m : ℕ). slice_get (map range_of_unloaded_struct modules) m ≡ Some (Some e.range)) h k in cc

  -- the range of the module at n
  read : (n : ℕ) (m : MinidumpUnloadedModule) (o : Option Range) → n < length modules → m ≡ get_or modules n m → o ≡ range_of_unloaded_struct m
      → slice_get (map range_of_unloaded_struct modules) n ≡ Some o
  read n m o lt at is = slice_get_read (map range_of_unloaded_struct modules) (length (map range_of_unloaded_struct modules)) n o refl
      (index_within range_of_unloaded_struct modules n lt) (at_region range_of_unloaded_struct modules n m o lt at is)

  -- where it has none
  pub below_none : (n : ℕ) (m : MinidumpUnloadedModule) (o : Option Range) (entries : List IndexedRange) → n < length modules → m ≡ get_or modules n m
      → o ≡ range_of_unloaded_struct m → o ≡ None → AreBelow modules n entries → AreBelow modules (n + 1) entries
  below_none n m o entries lt at is none b = record {
    into = λ x k. let p = b.into x k in (omega (arith, p.0), p.1);
    from = λ x k r. elim (cases_lt x.index n) [
      | inl below ↦ b.from x below r
      | inr above ↦ absurd (none_there n o x (read n m o lt at is) none (omega arith) r)
    ];
    rising = b.rising;
  }

  -- and where it has one
  pub below_some : (n : ℕ) (m : MinidumpUnloadedModule) (o : Option Range) (r : Range) (entries : List IndexedRange) → n < length modules → m ≡ get_or modules n m
      → o ≡ range_of_unloaded_struct m → o ≡ Some r → AreBelow modules n entries → AreBelow modules (n + 1) (entries ++ indexed_range r n ∷ [])
  below_some n m o r entries lt at is some b =
      let here : HasRange (map range_of_unloaded_struct modules) n r = read n m o lt at is ∙ ap (λ (x : Option Range). Some x) some in
      record {
        into = λ x k. elim (Contains-push_cases entries (indexed_range r n) x k) [
          | inl old ↦ (let p = b.into x old in (omega (arith, p.0), p.1))
          | inr new ↦ subst (λ (y : IndexedRange). (y.index < n + 1) × HasRange (map range_of_unloaded_struct modules) y.index y.range) new (omega arith, here)
        ];
        from = λ x k q. elim (cases_lt x.index n) [
          | inl below ↦ Contains-append_left entries (indexed_range r n ∷ []) x (b.from x below q)
          | inr above ↦
              (let at : n ≡ x.index = omega arith in
              let there : HasRange (map range_of_unloaded_struct modules) x.index r = subst (λ (k : ℕ). HasRange (map range_of_unloaded_struct modules) k r) at here in
              subst (Contains (entries ++ indexed_range r n ∷ [])) (same_indexed_range r x.range n x.index
              (one_range (map range_of_unloaded_struct modules) x.index r x.range there q) at) (Contains-push entries (indexed_range r n)))
        ];
        rising = all_pairs_push (λ (e f : IndexedRange). e.index < f.index) entries (indexed_range r n) b.rising
            (λ k d h. (b.into (get_or entries k d) (Contains-get_or entries k d h)).0);
      }

  pub below_all : (n : ℕ) (entries : List IndexedRange) → length modules ≤ n → AreBelow modules n entries → IsByIndex (map range_of_unloaded_struct modules) entries
  below_all n entries h b = record {
    members = λ e. (
      (λ k. (b.into e k).1),
      (λ r. b.from e (let l = in_list (map range_of_unloaded_struct modules) e.index e.range r in
          omega (arith, l, length-map modules range_of_unloaded_struct)) r),
    );
    ascending = b.rising;
  }

  -- each index is one of the list's
  pub all_inside : (StandsBefore : IndexedRange → IndexedRange → Type 0) (entries : List IndexedRange) → IsListedBy StandsBefore (map range_of_unloaded_struct modules) entries
      → IsInside modules entries
  all_inside StandsBefore entries b k d h =
      let e = get_or entries k d in
      let l = in_list (map range_of_unloaded_struct modules) e.index e.range ((b.members e).0 (Contains-get_or entries k d h)) in
      omega (arith, l, length-map modules range_of_unloaded_struct)

-- ---- the sort
abbrev indexed_range_cmp : IndexedRange → IndexedRange → Ordering
indexed_range_cmp e f = ordering_then (range_cmp e.range f.range) (nat_cmp e.index f.index)

indexed_range_total : IsTotalOrder indexed_range_cmp
indexed_range_total = then_total (on_total (λ e. e.range) (then_total (on_total (λ r. r.start) nat_cmp_total) (on_total (λ r. r.end) nat_cmp_total)))
    (on_total (λ e. e.index) nat_cmp_total)

abbrev entry_of : IndexedRange → Entry
entry_of e = entry e.range e.index

same_of_entry : (e f : IndexedRange) → entry_of e ≡ entry_of f → e ≡ f
same_of_entry e f same = same_indexed_range e.range f.range e.index f.index (ap (λ (x : Entry). x.range) same) (ap (λ (x : Entry). x.index) same)

one_pair : (e f : IndexedRange) → is_lt (indexed_range_cmp f e) ≡ false → Precedes e f ⊎ (e ≡ f)
one_pair e f h = elim (by_start (entry_of e) (entry_of f) h) [
  | inl first ↦ inl first
  | inr same ↦ inr (same_of_entry e f same)
]

pub order_from : (order : List IndexedRange) → IsSorted indexed_range_cmp order → IsInOrder order
order_from order h i j d lt within =
    one_pair (get_or order i d) (get_or order j d) (sorted_far (λ x y. is_lt (indexed_range_cmp x y)) (ranks_by indexed_range_total (λ (e : IndexedRange). e)) order h i j d
    (omega arith) within)

-- ---- no index twice, also after a sort
abbrev has_same_index : IndexedRange → IndexedRange → Bool
has_same_index e f = e.index == f.index

flips : (m n : ℕ) → (m == n) ≡ (n == m)
flips m n = elim (cases_eq m n) [
  | inl same ↦ rw same refl
  | inr differ ↦ ne_eqb m n differ ∙ sym (ne_eqb n m (λ same. differ (sym same)))
]

once_by_index : (entries : List IndexedRange) → AllPairs (λ e f. e.index < f.index) entries → IsDistinct has_same_index entries
once_by_index entries up = IsDistinct-from_apart has_same_index entries
    (λ i j d lt within. ne_eqb (get_or entries i d).index (get_or entries j d).index (λ same. let step = up i j d lt within in omega (arith, step, same)))

-- entries by index, sorted, are in order
pub sorted_order : (ranges : List (Option Range)) (entries order : List IndexedRange)
    → IsByIndex ranges entries → IsPermutation entries order → IsInOrder order → IsOrderOf ranges order
sorted_order ranges entries order b moved sorted =
    let once : IsDistinct has_same_index order =
    IsDistinct-IsPermutation has_same_index (λ e f. flips e.index f.index) entries order moved (once_by_index entries b.ascending) in
    record {
      members = λ e. (
        (λ h. (b.members e).0 (Contains-permutation order entries e (IsPermutation-sym entries order moved) h)),
        (λ r. Contains-permutation entries order e moved ((b.members e).1 r)),
      );
      ascending = λ i j d lt within. elim (sorted i j d lt within) [
        | inl first ↦ first
        | inr same ↦
            let differ = apart_from_distinct has_same_index order i j d once lt within in
            let equal = eq-eqb (get_or order i d).index (get_or order j d).index (ap (λ (e : IndexedRange). e.index) same) in
            absurd cc
      ];
    }
