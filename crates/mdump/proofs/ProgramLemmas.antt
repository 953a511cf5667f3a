-- What collecting the arguments gives, and what writing the report did.
use Rattle.std.specs.Prelude.{◌≡◌, ℕ, [], List, Option, Result, Ok, Err, IfOk, vec_items}
use Rattle.std.specs.Global.{Vec}
use Rattle.std.specs.Iterator.{Drains}
use Rattle.std.proofs.Common.{inl, inr}
use Rattle.std.proofs.lemmas.Iterator.{IsCollectResult}
use Rattle.minidump.specs.declared.Told.{Told}
use Rattle.minidump.specs.declared.Error.{Error}
use Rattle.minidump.specs.Dump.{Dump, dump_in}
use Rattle.minidump.specs.Report.{ReportsOn}
use Rattle.mdump.specs.declared.command.Task.TheVariants.{Report}
use Rattle.mdump.specs.Done.{IsDoneOn}

-- the vector holds all that the iterator yields
pub collect_drains : {S A E : Type 0} (steps : S → Option A → S → Type 0) (s : S) (r : Result (Vec A) E) → IsCollectResult steps s r
    → IfOk r (λ v. Drains steps s (vec_items v))
collect_drains steps s (Ok v) (xs, (t, yields, ends), (items, len)) = let e = ends tt in rw items (e.0, (t, yields, e.1))
collect_drains steps s (Err e) any = tt

-- the report was printed, or the bytes are no minidump
pub reported : {D : Type 0} (contents : D → Option (List ℕ)) (old new : Told D) (bytes : List ℕ) (r : Result (Unit {0}) Error)
    (assigned : Result Dump Error) → dump_in bytes ≡ assigned → ReportsOn contents old new [] r assigned → IsDoneOn contents old new Report bytes r
reported contents old new bytes r (Ok dump) is prints = inl (rw is prints)
reported contents old new bytes r (Err e) is (same, error) = inr (same, rw error (inl is))
