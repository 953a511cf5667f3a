-- What a lookup in an index says of the regions with their numbers.
use Rattle.std.proofs.Common.{◌≡◌, ◌∙◌, ℕ, ◌<◌, ◌+◌, List, [], ◌∷◌, get_or, length, map, subst, sym, ap, refl, arith, Bool}
use Rattle.std.specs.Prelude.{Option, Some, None, slice_get}
use Rattle.std.specs.List.{enumerate_from}
use Rattle.std.specs.Option.{option_map}
use Rattle.std.proofs.lemmas.List.FromFn.{get_or-enumerate_from, length-enumerate_from}
use Rattle.std.proofs.lemmas.Option.{slice_get-get_or}
use Rattle.minidump_index.specs.declared.range.Range.{Range}
use Rattle.minidump_index.specs.declared.index.Entry.{Entry}
use Rattle.minidump_index.specs.Overlap.{IsKeptSet}
use Rattle.minidump_index.specs.Kept.{IsFound, IsIndexOf}
use Rattle.minidump_index.specs.Lookup.{KeptAt, looked_up}
use Rattle.minidump_index.proofs.AddressOrder.{entry_at}
use Rattle.minidump_index.proofs.LookupLemmas.{found_kept, found_within}
use Rattle.minidump_index.proofs.RegionLaws.{answers_alone, is_looked_up}
use Rattle.minidump_index.proofs.RegionViews.{looked_up as seen_lookup}

module _ {R : Type 0} (range : R → Option Range) where
  -- numbers don't change the ranges
  same_ranges : (n : ℕ) (xs : List R) → map (λ p. range p.1) (enumerate_from n xs) ≡ map range xs
  same_ranges n [] = refl
  same_ranges n (x ∷ xs) = ap (λ rs. range x ∷ rs) (same_ranges (n + 1) xs)

  -- a region with its number
  numbered : (xs : List R) (index : ℕ) (r : R) → index < length xs → r ≡ get_or xs index r
      → slice_get (enumerate_from 0 xs) index ≡ Some (index, r)
  numbered xs index r within at =
      let inside : index < length (enumerate_from 0 xs) = subst (λ n. index < n) (sym (length-enumerate_from 0 xs)) within in
      let zero : 0 + index ≡ index = omega arith in
      slice_get-get_or (enumerate_from 0 xs) index (index, r) inside ∙ ap Some (get_or-enumerate_from 0 xs index (index, r) within)
      ∙ ap (λ n. Some (n, get_or xs index r)) zero ∙ ap (λ x. Some (index, x)) (sym at)

  module _ (regions : List R) (entries : List Entry) (address : ℕ) (is_index : IsIndexOf (map range regions) entries) where
    pub numbered_none : IsFound entries address None → None ≡ looked_up (λ p. range p.1) (enumerate_from 0 regions) address
    numbered_none none = is_looked_up (λ p. range p.1) (enumerate_from 0 regions) address None (λ kept k index at.
        let same = same_ranges 0 regions in
        let e =
        entry_at (map range regions) entries kept address index is_index (subst (λ (rs : List (Option Range)). IsKeptSet rs kept) same k)
        (subst (λ (rs : List (Option Range)). KeptAt rs kept address index) same at)
        in none e.0 e.1 e.3)

    pub numbered_some : (index : ℕ) (r : R) → IsFound entries address (Some index) → r ≡ get_or regions index r
        → Some (index, r) ≡ looked_up (λ p. range p.1) (enumerate_from 0 regions) address
    numbered_some index r found at = is_looked_up (λ p. range p.1) (enumerate_from 0 regions) address (Some (index, r)) (λ kept k.
        let same = same_ranges 0 regions in (
          index,
          subst (λ (rs : List (Option Range)). KeptAt rs kept address index) (sym same)
              (found_kept (map range regions) entries address index is_index found kept (subst (λ (rs : List (Option Range)). IsKeptSet rs kept) same k)),
          numbered regions index r (found_within range regions entries address index is_index found) at,
        ))

-- ---- views of regions that show their ranges

module _ {R V : Type 0} (view : R → V) where
  numbered_views : (n : ℕ) (regions : List R) → enumerate_from n (map view regions) ≡ map (λ p. (p.0, view p.1)) (enumerate_from n regions)
  numbered_views n [] = refl
  numbered_views n (r ∷ rs) = ap (λ (xs : List (ℕ × V)). (n, view r) ∷ xs) (numbered_views (n + 1) rs)

  seen : {P : Type 0} (f : P → ℕ × R) (found : Option P)
      → option_map {U = ℕ × V} (λ p. ((f p).0, view (f p).1)) found ≡ option_map {U = ℕ × V} (λ (p : ℕ × R). (p.0, view p.1)) (option_map {U = ℕ × R} f found)
  seen f None = refl
  seen f (Some p) = refl

  -- a numbered region that is found is found among the views, with the same number
  pub numbered_view : (range : R → Option Range) (shown : V → Option Range) → ((r : R) → shown (view r) ≡ range r) → {P : Type 0} (f : P → ℕ × R)
      → (regions : List R) (address : ℕ) (found : Option P) → option_map f found ≡ looked_up (λ p. range p.1) (enumerate_from 0 regions) address
      → option_map (λ p. ((f p).0, view (f p).1)) found ≡ looked_up (λ p. shown p.1) (enumerate_from 0 (map view regions)) address
  numbered_view range shown same f regions address found is =
      let alone = answers_alone (λ (p : ℕ × R). range p.1) (enumerate_from 0 regions) address (option_map f found) in
      let there = seen_lookup (λ (p : ℕ × R). (p.0, view p.1)) (λ p. range p.1) (λ (p : ℕ × V). shown p.1) (λ p. same p.1)
      (enumerate_from 0 regions) address (option_map f found) (alone.1 is) in
      seen f found
      ∙ is_looked_up (λ (p : ℕ × V). shown p.1) (map (λ p. (p.0, view p.1)) (enumerate_from 0 regions)) address
      (option_map (λ p. (p.0, view p.1)) (option_map f found)) there
      ∙ ap (λ (xs : List (ℕ × V)). looked_up (λ p. shown p.1) xs address) (sym (numbered_views 0 regions))
