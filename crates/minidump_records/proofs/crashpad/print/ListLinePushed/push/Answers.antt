-- The pieces are the line.
use Rattle.minidump_records.specs.Crashpad.Text.{list_line}
use Rattle.minidump_records.proofs.crashpad.print.ListLinePushed.push.Goals as goal

pub returns : goal.returns
unfolding list_line
returns c = rw (← c.as_str.ensures.value) c.push_pieces.ensures.ok
