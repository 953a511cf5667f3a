-- The parts of the text, one after another.
use Rattle.std.proofs.Common.{append_assoc}
use Rattle.minidump_context.specs.Text.{x86_text}
use Rattle.minidump_context.proofs.print.x86.push_context.Goals as goal

pub returns : goal.returns
unfolding x86_text
returns c = simp append_assoc at (rw (
  c.in_ok-push_bytes_line-2.ensures,
  c.in_ok-push_rest.ensures,
  c.in_ok-push_bytes_line.ensures,
  c.in_ok-push_debug.ensures,
  c.in_ok-extend_from_slice.ensures.items,
) at c.push_line_end.ensures.pushed)
