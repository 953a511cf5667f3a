-- The items of a list in an order, each once.
use Rattle.std.proofs.Common.{◌≡◌, ◌∙◌, ◌↔◌, T, Ordering, Less, List, [], ◌∷◌, ap, arith, map, refl, sym, is_some, BTreeSet, nat_cmp}
use Rattle.std.specs.BTreeSet.{IsFromIterResult}
use Rattle.std.specs.Cmp.{IsTotalOrder, nat_cmp_total, on_total, then_total}
use Rattle.std.specs.FinMap.{FinMap, contains_key-keys, entries, entries_sorted, from_entries, get-from_entries, is_sorted}
use Rattle.std.specs.FinMap.Entries.{below_all, is_some-find}
use Rattle.std.specs.List.{All, AllByRecursion, list_any}
use Rattle.std.specs.List.Sorted.{IsStrictlySortedBy}
use Rattle.std.specs.Map.{keys_of}
use Rattle.std.specs.Ordering.{eq_by_cmp}
use Rattle.std.proofs.lemmas.Bool.Decides.{same_from_decides}
use Rattle.std.proofs.lemmas.List.Elements.{recursion_from_All}
use Rattle.std.proofs.lemmas.Map.Lookups.{CmpEqualImpliesEq, btree_set_from_contains, exact_pairs, exact_unsigned}
use Rattle.std.proofs.lemmas.Map.Views.{btree_set_contains_from_list, btree_set_contains_iff}
use Rattle.crash_process.specs.Ascending.{IsAscending, ascending}
use Rattle.crash_process.specs.Modules.{pair_cmp}

module _ {K X : Type 0} (cmp : K → K → Ordering) where
  above : (x : K) (es : List (K × X)) → T (below_all cmp x es) → AllByRecursion (λ y. cmp x y ≡ Less) (keys_of es)
  above x [] h = tt
  above x (e ∷ es) h = (grind arith, above x es (grind arith))

  -- the keys of a finite map ascend
  rises : (es : List (K × X)) → T (is_sorted cmp es) → IsStrictlySortedBy cmp (keys_of es)
  unfolding IsStrictlySortedBy
  rises [] h = tt
  rises (e ∷ es) h = (above e.0 es (grind arith), rises es (grind arith))

-- entries whose values are those of their keys
pub keys_are : {K X : Type 0} (make : K → X) (key : X → K) → ((k : K) → key (make k) ≡ k) → (ks : List K) → map key (map make ks) ≡ ks
keys_are make key is [] = refl
keys_are make key is (k ∷ ks) = λ i. is k i ∷ keys_are make key is ks i

values_are : {K X Y Z : Type 0} (make : K → X → Z) (key : Y → K) (value : Y → X) (f : K → X) (ys : List Y) → AllByRecursion (λ y. value y ≡ f (key y)) ys
    → map (λ y. make (key y) (value y)) ys ≡ map (λ k. make k (f k)) (map key ys)
values_are make key value f [] h = refl
values_are make key value f (y ∷ ys) h = λ i. make (key y) (h.0 i) ∷ values_are make key value f ys h.1 i

module _ {K : Type 0} (cmp : K → K → Ordering) (total : IsTotalOrder cmp) (exact : CmpEqualImpliesEq cmp) where
  -- a set that is made of a list
  pub keys_ascend : (xs : List K) (s : BTreeSet K) → IsFromIterResult cmp xs s → IsAscending cmp xs s.keys
  keys_ascend xs s h = record {
    ascending = h.1;
    same = λ x.
        let kept = btree_set_contains_iff total exact s x in
        let given = btree_set_contains_from_list total exact xs s h x in
        (λ k. given.0 (kept.1 k), λ g. kept.0 (given.1 g));
  }

  made : (xs : List K) → IsFromIterResult cmp xs (record { keys = ascending cmp xs })
  unfolding ascending
  made xs =
      let es = map {B = K × K} (λ x. (x, x)) xs in
      let m : FinMap cmp K = from_entries es in (
        λ q. sym (contains_key-keys m q) ∙ ap is_some (get-from_entries total es q) ∙ is_some-find cmp q es
            ∙ ap (list_any (eq_by_cmp cmp q)) (keys_are {X = K × K} (λ x. (x, x)) (λ e. e.0) (λ k. refl) xs),
        rises cmp (entries m) (entries_sorted m),
      )

  -- exactly one list ascends
  pub one_ascends : (xs ys : List K) → IsAscending cmp xs ys ↔ (ys ≡ ascending cmp xs)
  one_ascends xs ys =
      let s : BTreeSet K = record { keys = ascending cmp xs } in
      let t : BTreeSet K = record { keys = ys } in (
        λ h. btree_set_from_contains total t s h.ascending (made xs).1 (λ q.
            let kept = btree_set_contains_iff total exact t q in
            same_from_decides _ _ (λ k. (h.same q).0 (kept.0 k), λ g. kept.1 ((h.same q).1 g)) (btree_set_contains_from_list total exact xs s (made xs) q)) exact,
        λ is. rw is (keys_ascend xs s (made xs)),
      )

  -- exactly one table has these keys with these values
  pub one_table : {X Y Z : Type 0} (make : K → X → Z) (key : Y → K) (value : Y → X) (f : K → X) (xs : List K) (ys : List Y)
      → IsAscending cmp xs (map key ys) → All (λ y. value y ≡ f (key y)) ys → map (λ y. make (key y) (value y)) ys ≡ map (λ k. make k (f k)) (ascending cmp xs)
  one_table make key value f xs ys h values = values_are make key value f ys (recursion_from_All (λ y. value y ≡ f (key y)) ys values)
      ∙ ap (map (λ k. make k (f k))) ((one_ascends xs (map key ys)).0 h)

-- ---- the order of pairs

pub pairs_total : IsTotalOrder pair_cmp
pairs_total = then_total (on_total (λ p. p.0) nat_cmp_total) (on_total (λ p. p.1) nat_cmp_total)

pub pairs_exact : CmpEqualImpliesEq pair_cmp
pairs_exact = exact_pairs nat_cmp nat_cmp exact_unsigned exact_unsigned
