-- Lemmas on texts that are printed in blocks: what waits in a block is printed before what comes after it.
use Rattle.std.specs.Prelude.{◌≡◌, ℕ, List, ◌++◌, Option, Result, IsErrAnd}
use Rattle.std.proofs.Common.{refl, subst, sym, append_assoc}
use Rattle.std.proofs.lemmas.Result.{err_from_is_err_and}
use Rattle.minidump_bytes.proofs.ToldLemmas.{not_dead}
use Rattle.minidump_bytes.specs.declared.told.Told.{Told}
use Rattle.minidump_bytes.specs.Told.{PutsPrefix}
use Rattle.minidump_format.specs.declared.error.Error.{Error}
use Rattle.minidump_format.specs.declared.error.Error.TheVariants.{OutOfMemory}
use Rattle.minidump_format.specs.Print.{Prints}
use Rattle.minidump_format.proofs.Printing.{PutsAllBut}

module _ {D : Type 0} (contents : D → Option (List ℕ)) where
  -- the next item's text waits after the block
  pub but_joined : (a b : Told D) (whole block text rest new : List ℕ) → new ≡ block ++ text → PutsAllBut contents a b whole (block ++ (text ++ rest))
      → PutsAllBut contents a b whole (new ++ rest)
  but_joined a b whole block text rest new e before = rw e (subst (PutsAllBut contents a b whole) (sym (append_assoc block text rest)) before)

  -- what waited was lost
  pub but_lost : (a b : Told D) (whole rest : List ℕ) → PutsAllBut contents a b whole rest → PutsPrefix contents a b whole
  but_lost a b whole rest before = record {
    front = before.front;
    rest = rest;
    split = before.split;
    grown = before.put.grown;
    dead = not_dead before.put.ready;
  }

  -- where memory ran out, and nothing failed before
  pub lost_of : (a b : Told D) (whole rest : List ℕ) (r : Result (Unit {0}) Error) → PutsAllBut contents a b whole rest
      → IsErrAnd r (λ y. y ≡ OutOfMemory) → Prints contents a b whole r
  lost_of a b whole rest r before exit =
      let p = err_from_is_err_and r exit in rw (p.1, p.2) (but_lost a b whole rest before, rw before.put.alive refl)
