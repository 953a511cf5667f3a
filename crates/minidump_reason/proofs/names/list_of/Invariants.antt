-- The family's list is not among those that were passed.
use Rattle.std.proofs.Common.{◌≡◌, drop}
use Rattle.minidump_reason.specs.Names.{list_of, lists_of}
use Rattle.minidump_reason.proofs.names.list_of.Given as goal

abbrev pub invariant-loop-list : goal.invariant-loop-list
invariant-loop-list l = list_of (lists_of l.lists) l.family ≡ list_of (lists_of (drop l.list-index l.lists)) l.family
