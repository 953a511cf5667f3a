-- Sorted by the derived order is in order.
use Rattle.std.proofs.Common.{rules}
use Rattle.minidump_modules.proofs.OrderLemmas.{order_from}
use Rattle.minidump_modules.proofs.unloaded_order.sort.Goals as goal

pub returns-clause-sorted : goal.returns-clause-sorted
returns-clause-sorted c = order_from _ (search rules)
