-- Sorted by the derived order is in order.
use Rattle.std.proofs.Common.{rules}
use Rattle.std.proofs.lemmas.List.Sorted.{IsPermutation-map}
use Rattle.minidump_index.specs.Tree.{wide_entry}
use Rattle.minidump_index.proofs.KeptEntries.{order_from}
use Rattle.minidump_index.proofs.tree.WideStored.sort.Goals as goal

pub returns-clause-order : goal.returns-clause-order
returns-clause-order c = order_from wide_entry _ (search rules)

pub returns-clause-same : goal.returns-clause-same
returns-clause-same c = IsPermutation-map wide_entry _ _ (search rules)
