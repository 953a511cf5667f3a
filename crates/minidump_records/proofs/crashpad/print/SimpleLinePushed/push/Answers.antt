-- The pieces are the line.
use Rattle.minidump_records.specs.Crashpad.Text.{simple_line}
use Rattle.minidump_records.proofs.crashpad.print.SimpleLinePushed.push.Goals as goal

pub returns : goal.returns
unfolding simple_line
returns c = rw (← c.as_str.ensures.value, ← c.as_str-2.ensures.value) c.push_pieces.ensures.ok
