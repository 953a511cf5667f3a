-- The parts of the text, one after another.
use Rattle.std.proofs.Common.{append_assoc}
use Rattle.minidump_context.specs.Text.{amd64_text}
use Rattle.minidump_context.proofs.print.amd64.push_context.Goals as goal

pub returns : goal.returns
unfolding amd64_text
returns c = simp append_assoc at (rw (c.in_ok-push_lines.ensures, c.in_ok-extend_from_slice.ensures.items) at c.push_line_end.ensures.pushed)
