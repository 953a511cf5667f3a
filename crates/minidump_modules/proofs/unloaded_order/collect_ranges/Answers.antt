-- One module more: it has a range, or none.
use Rattle.std.proofs.Common.{arith}
use Rattle.minidump_modules.proofs.OrderLemmas.{below_all, below_none, below_some}
use Rattle.minidump_modules.proofs.unloaded_order.collect_ranges.Goals.{in-Some+in_ok-push, in_default}
use Rattle.minidump_modules.proofs.unloaded_order.collect_ranges.Goals as goal

pub loop-index-preserved : goal.loop-index-preserved
loop-index-preserved c =
    let ms = c.args.modules.now in
    let lt = c.loop-index-test.true in
    let at = c.index-modules-index.is in
    elim c.match-memory_range.branch [
      | in-Some+in_ok-push w ↦ rw (w.order-is, w.in_ok-push.ensures.items)
          (below_some ms _ _ _ _ _ lt at c.memory_range.ensures w.in-Some.is c.loop-index.invariant)
      | in_default w ↦ rw w.order-is (below_none ms _ _ _ _ lt at c.memory_range.ensures w.in_default.is c.loop-index.invariant)
    ]

pub returns : goal.returns
returns c = below_all c.args.modules.now _ _ (omega arith) c.loop-index.invariant
