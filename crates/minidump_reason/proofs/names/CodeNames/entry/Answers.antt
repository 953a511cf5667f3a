-- The entry in the family's list is that of the value of the lists.
use Rattle.minidump_reason.specs.Names.{name_of}
use Rattle.minidump_reason.proofs.names.CodeNames.entry.Goals as goal

pub returns : goal.returns
unfolding name_of
returns c = rw (← c.self.view_is, ← c.list_of.ensures.same) c.entry_in.ensures
