-- The sorted ranges are the order.
use Rattle.minidump_modules.proofs.OrderLemmas.{all_inside, sorted_order}
use Rattle.minidump_modules.specs.UnloadedOrder.{Precedes}
use Rattle.minidump_modules.proofs.unloaded_order.order_of.Goals as goal

pub returns-clause-order : goal.returns-clause-order
returns-clause-order c = sorted_order _ _ _ c.in_ok-order.ensures c.sort.ensures.same c.sort.ensures.sorted

pub returns-clause-inside : goal.returns-clause-inside
returns-clause-inside c = all_inside c.args.modules.now Precedes _ (sorted_order _ _ _ c.in_ok-order.ensures c.sort.ensures.same c.sort.ensures.sorted)
