-- Threads that are printed with their indexes: the next one, and those after it.
use Rattle.std.specs.Prelude.{◌≡◌, ℕ, suc, ◌+◌, ◌<◌, List, ◌++◌, Option, Result, Err, IsErrAnd, length, get_or, drop, map}
use Rattle.std.proofs.Common.{drop-cons, subst, ap, ◌∙◌, arith}
use Rattle.std.specs.List.{enumerate_from, flat_map}
use Rattle.minidump_bytes.specs.declared.told.Told.{Told}
use Rattle.minidump_bytes.specs.Told.{PutsAll}
use Rattle.minidump_format.specs.declared.error.Error.{Error}
use Rattle.minidump_format.specs.Print.{Prints}
use Rattle.minidump_format.proofs.Printing.{PutsAllBut, but_exit, but_next}

module _ {A B : Type 0} (text : ℕ × B → List ℕ) (view : A → B) (xs : List A) (i : ℕ) where
  first_numbered : (d : A) → i < length xs
      → flat_map text (enumerate_from i (map view (drop i xs)))
      ≡ text (i, view (get_or xs i d)) ++ flat_map text (enumerate_from (i + 1) (map view (drop (i + 1) xs)))
  first_numbered d h =
      let e : suc i ≡ i + 1 = omega arith in
      ap (λ l. flat_map text (enumerate_from i (map view l))) (drop-cons xs i d h)
      ∙ ap (λ k. text (i, view (get_or xs i d)) ++ flat_map text (enumerate_from (i + 1) (map view (drop k xs)))) e

  -- it was printed
  pub numbered_next : {D : Type 0} (contents : D → Option (List ℕ)) (a b c : Told D) (all : List ℕ) (d : A) → i < length xs
      → PutsAllBut contents a b all (flat_map text (enumerate_from i (map view (drop i xs)))) → PutsAll contents b c (text (i, view (get_or xs i d)))
      → PutsAllBut contents a c all (flat_map text (enumerate_from (i + 1) (map view (drop (i + 1) xs))))
  numbered_next contents a b c all d h before put =
      but_next contents a b c all _ _ (subst (PutsAllBut contents a b all) (first_numbered d h) before) put

  -- or printing it failed
  pub numbered_failed : {D : Type 0} (contents : D → Option (List ℕ)) (a b c : Told D) (all : List ℕ) (r : Result (Unit {0}) Error) (e : Error) (d : A)
      → i < length xs
      → PutsAllBut contents a b all (flat_map text (enumerate_from i (map view (drop i xs)))) → IsErrAnd r (λ y. y ≡ e)
      → Prints contents b c (text (i, view (get_or xs i d))) (Err e) → Prints contents a c all r
  numbered_failed contents a b c all r e d h before exit failure =
      but_exit contents a b c all _ _ r e (subst (PutsAllBut contents a b all) (first_numbered d h) before) exit failure
