-- The name of the type is the shown one.
use Rattle.minidump.specs.Text.{stream_text}
use Rattle.minidump.proofs.print.StreamLinePushed.push.Goals as goal

pub returns : goal.returns
unfolding stream_text
returns c = rw (← c.type_name.ensures) c.push_pieces.ensures.ok
