-- The ranges of the modules so far.
use Rattle.minidump_modules.proofs.OrderLemmas.{AreBelow}
use Rattle.minidump_modules.proofs.unloaded_order.collect_ranges.Given as goal

abbrev pub invariant-loop-index : goal.invariant-loop-index
invariant-loop-index l = AreBelow l.modules l.index l.order.items
