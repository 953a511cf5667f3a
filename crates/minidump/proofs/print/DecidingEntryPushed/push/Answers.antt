-- The name of the type is the shown one.
use Rattle.minidump.specs.Text.{entry_text}
use Rattle.minidump.proofs.print.DecidingEntryPushed.push.Goals as goal

pub returns : goal.returns
unfolding entry_text
returns c = rw (← c.type_name.ensures) c.push_pieces.ensures.ok
