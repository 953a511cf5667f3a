-- Maps that a loop puts together, pair by pair.
use Rattle.std.proofs.Common.{◌≡◌, ◌≤◌, ◌+◌, ℕ, Ordering, Less, Equal, Greater, List, [], ◌∷◌, ◌++◌, map, refl, ap, arith}
use Rattle.std.specs.BTreeMap.{insert_entry}
use Rattle.std.specs.Cmp.Lexicographic.{slice_cmp}
use Rattle.std.specs.List.{sum_by}
use Rattle.std.specs.Ordering.{match_ordering, nat_cmp}
use Rattle.std.proofs.lemmas.List.Sums.{sum_by-cons, sum_by_push}
use Rattle.minidump_system.specs.LastValues.{IsDictionaryOf}
use Rattle.minidump_system.proofs.OneDictionary.{dictionary_more}

-- one pair more adds no more than its weight, where a weight is that of the value
module _ {V : Type 0} (weight : V → ℕ) where
  abbrev weighed : List ℕ × V → ℕ
  weighed e = weight e.1

  by_order : (o : Ordering) (e : List ℕ × V) (es more : List (List ℕ × V)) (k : List ℕ) (v : V) → sum_by weighed more ≤ sum_by weighed es + weight v
      → sum_by weighed (match_ordering o ((k, v) ∷ e ∷ es) ((e.0, v) ∷ es) (e ∷ more)) ≤ sum_by weighed (e ∷ es) + weight v
  by_order Less e es more k v h =
      let p : sum_by weighed ((k, v) ∷ e ∷ es) ≡ weight v + sum_by weighed (e ∷ es) = sum_by-cons weighed (k, v) (e ∷ es) in
      let q : sum_by weighed ((k, v) ∷ e ∷ es) ≤ sum_by weighed (e ∷ es) + weight v = omega (arith, p) in q
  by_order Equal e es more k v h =
      let p : sum_by weighed ((e.0, v) ∷ es) ≡ weight v + sum_by weighed es = sum_by-cons weighed (e.0, v) es in
      let r : sum_by weighed (e ∷ es) ≡ weight e.1 + sum_by weighed es = sum_by-cons weighed e es in
      let q : sum_by weighed ((e.0, v) ∷ es) ≤ sum_by weighed (e ∷ es) + weight v = omega (arith, p, r) in q
  by_order Greater e es more k v h =
      let p : sum_by weighed (e ∷ more) ≡ weight e.1 + sum_by weighed more = sum_by-cons weighed e more in
      let r : sum_by weighed (e ∷ es) ≡ weight e.1 + sum_by weighed es = sum_by-cons weighed e es in
      let q : sum_by weighed (e ∷ more) ≤ sum_by weighed (e ∷ es) + weight v = omega (arith, p, r, h) in q

  insert_weighs : (es : List (List ℕ × V)) (k : List ℕ) (v : V) → sum_by weighed (insert_entry (slice_cmp nat_cmp) es k v) ≤ sum_by weighed es + weight v
  insert_weighs [] k v =
      let p : sum_by weighed ((k, v) ∷ []) ≡ weight v + sum_by weighed [] = sum_by-cons weighed (k, v) [] in
      let q : sum_by weighed ((k, v) ∷ []) ≤ sum_by weighed [] + weight v = omega (arith, p) in q
  insert_weighs (e ∷ es) k v = by_order (slice_cmp nat_cmp k e.0) e es (insert_entry (slice_cmp nat_cmp) es k v) k v (insert_weighs es k v)

-- to insert a pair, and then to view all pairs, is to insert the view of the pair
module _ {K V W : Type 0} (cmp : K → K → Ordering) (key : K → List ℕ) (value : V → W) (same : (j k : K) → cmp j k ≡ slice_cmp nat_cmp (key j) (key k)) where
  abbrev pair : K × V → List ℕ × W
  pair e = (key e.0, value e.1)

  here : (o : Ordering) (e : K × V) (es : List (K × V)) (k : K) (v : V)
      → map pair (insert_entry cmp es k v) ≡ insert_entry (slice_cmp nat_cmp) (map pair es) (key k) (value v)
      → map pair (match_ordering o ((k, v) ∷ e ∷ es) ((e.0, v) ∷ es) (e ∷ insert_entry cmp es k v))
      ≡ match_ordering o ((key k, value v) ∷ pair e ∷ map pair es) ((key e.0, value v) ∷ map pair es)
      (pair e ∷ insert_entry (slice_cmp nat_cmp) (map pair es) (key k) (value v))
  here Less e es k v rest = refl
  here Equal e es k v rest = refl
  here Greater e es k v rest = ap (λ l. pair e ∷ l) rest

  pub insert_pair : (es : List (K × V)) (k : K) (v : V) → map pair (insert_entry cmp es k v) ≡ insert_entry (slice_cmp nat_cmp) (map pair es) (key k) (value v)
  insert_pair [] k v = refl
  insert_pair (e ∷ es) k v = rw (← same k e.0) (here (cmp k e.0) e es k v (insert_pair es k v))

  -- the map of one pair more is the dictionary of one pair more
  pub put_dictionary : (es : List (K × V)) (xs : List (List ℕ × W)) (k : K) (v : V) → IsDictionaryOf xs (map pair es)
      → IsDictionaryOf (xs ++ (key k, value v) ∷ []) (map pair (insert_entry cmp es k v))
  put_dictionary es xs k v d = rw (insert_pair es k v) (dictionary_more xs (map pair es) (key k, value v) d)

  -- it adds no more than its weight, where a weight is that of the value
  pub put_weighs : (weight : W → ℕ) (es : List (K × V)) (xs : List (List ℕ × W)) (k : K) (v : V)
      → sum_by (λ e. weight e.1) (map pair es) ≤ sum_by (λ e. weight e.1) xs
      → sum_by (λ e. weight e.1) (map pair (insert_entry cmp es k v)) ≤ sum_by (λ e. weight e.1) (xs ++ (key k, value v) ∷ [])
  put_weighs weight es xs k v le =
      rw (insert_pair es k v, sum_by_push (λ e. weight e.1) xs (key k, value v)) (omega (arith, le, insert_weighs weight (map pair es) (key k) (value v)))
