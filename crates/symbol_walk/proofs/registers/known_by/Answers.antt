-- One more, if it has a value.
use Rattle.std.proofs.Common.{append-nil, refl}
use Rattle.std.proofs.lemmas.List.{map-append}
use Rattle.symbol_walk.specs.Rules.{value_by}
use Rattle.symbol_walk.proofs.KnownLemmas.{known_next}
use Rattle.symbol_walk.proofs.registers.known_by.Goals as goal
use Rattle.symbol_walk.proofs.registers.known_by.Goals.{in-Some+in_ok-push, in_default}

pub loop-register-preserved : goal.loop-register-preserved
loop-register-preserved c =
    let more = known_next (value_by c.args.by.now) c.args.table.now c.loop-register.register-index _ c.loop-register.known.items c.match-value.known.items
    c.in_ok-value.value c.loop-register-test.true c.loop-register.invariant c.in_ok-value.ensures in
    elim c.match-value.branch [
      | in-Some+in_ok-push w ↦ more (rw (w.known-is, w.in_ok-push.ensures.items, map-append, w.in-Some.is) refl)
      | in_default w ↦ more (rw (w.known-is, w.in_default.is, append-nil) refl)
    ]
