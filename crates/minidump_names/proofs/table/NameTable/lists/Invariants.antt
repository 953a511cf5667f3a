-- The lists so far, each with the same codes.
use Rattle.std.proofs.Common.{◌≡◌, map, take}
use Rattle.minidump_reason.specs.declared.family.CodeFamily.{CodeFamily}
use Rattle.minidump_reason.specs.Names.{LentEntries}
use Rattle.minidump_names.proofs.LentLemmas.{lent_list}
use Rattle.minidump_names.proofs.table.NameTable.lists.Given as goal

abbrev pub invariant-loop-list : goal.invariant-loop-list
invariant-loop-list l = map lent_list l.lists.items ≡ map {B = CodeFamily × LentEntries} (λ p. (p.0, p.1.items)) (take l.list-index l.list-items)
