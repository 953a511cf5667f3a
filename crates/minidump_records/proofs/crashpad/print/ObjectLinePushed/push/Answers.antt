-- The pieces are the line.
use Rattle.minidump_records.specs.Crashpad.Text.{object_line}
use Rattle.minidump_records.proofs.crashpad.print.ObjectLinePushed.push.Goals as goal

pub returns : goal.returns
unfolding object_line
returns c = rw (← c.as_str.ensures.value, ← c.annotation_str.ensures) c.push_pieces.ensures.ok
