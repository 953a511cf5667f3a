-- The parts of the text, one after another.
use Rattle.std.proofs.Common.{append_assoc}
use Rattle.minidump_context.specs.Text.{arm_text}
use Rattle.minidump_context.proofs.print.arm.push_context.Goals as goal

pub returns : goal.returns
unfolding arm_text
returns c = simp append_assoc at (rw (
  c.in_ok-push_status.ensures,
  c.in_ok-push_iregs.ensures,
  c.in_ok-push_flags.ensures,
  c.in_ok-extend_from_slice.ensures.items,
) at c.push_float.ensures)
