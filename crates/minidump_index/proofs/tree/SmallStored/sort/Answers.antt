-- Sorted by the derived order is in order.
use Rattle.std.proofs.Common.{rules}
use Rattle.std.proofs.lemmas.List.Sorted.{IsPermutation-map}
use Rattle.minidump_index.specs.Tree.{small_entry}
use Rattle.minidump_index.proofs.KeptEntries.{small_sorted}
use Rattle.minidump_index.proofs.tree.SmallStored.sort.Goals as goal

pub returns-clause-order : goal.returns-clause-order
returns-clause-order c = small_sorted _ (search rules)

pub returns-clause-same : goal.returns-clause-same
returns-clause-same c = IsPermutation-map small_entry _ _ (search rules)
