-- Lemmas on what is printed of the items of an iterator.
use Rattle.std.specs.Prelude.{◌≡◌, ℕ, List, Option, Result, map}
use Rattle.std.proofs.iter.Yields.{fronts}
use Rattle.std.specs.List.{flat_map}
use Rattle.std.specs.Slice.Iter.{iter_rest}
use Rattle.std.proofs.lemmas.Iterator.{YieldsList, YieldsList-from_slice}
use Rattle.std.proofs.lemmas.List.Folds.{flat_map-map}
use Rattle.minidump_bytes.specs.declared.told.Told.{Told}
use Rattle.minidump_format.specs.declared.error.Error.{Error}
use Rattle.minidump_format.specs.Print.{Prints}
use Rattle.minidump_format.proofs.SequenceLemmas.{yields_by}

module _ {D : Type 0} (contents : D → Option (List ℕ)) (a b : Told D) (r : Result (Unit {0}) Error) where
  -- the texts of values, one after another
  pub prints_texts : {A : Type 0} (text : A → List ℕ) (xs : List A) → Prints contents a b (flat_map (λ t. t) (map text xs)) r
      → Prints contents a b (flat_map text xs) r
  prints_texts text xs all = rw (← flat_map-map (λ t. t) text xs) all

  -- those of the items of a slice
  pub prints_slice : {A : Type 0} (text : A → List ℕ) (xs : List A) (s : _) → iter_rest s ≡ xs
      → ((texts : List (List ℕ)) → YieldsList fronts (λ y. text y.now) s texts → Prints contents a b (flat_map (λ t. t) texts) r)
      → Prints contents a b (flat_map text xs) r
  prints_slice text xs s is all =
      prints_texts text xs (all (map text xs) (yields_by fronts (λ y. y.now) text s xs (YieldsList-from_slice xs is)))
