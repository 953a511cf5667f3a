-- The parts of the text, one after another.
use Rattle.std.proofs.Common.{append_assoc}
use Rattle.minidump_context.specs.Text.{arm64_old_text}
use Rattle.minidump_context.proofs.print.arm64.push_old_context.Goals as goal

pub returns : goal.returns
unfolding arm64_old_text
returns c = simp append_assoc at (rw (c.in_ok-push_register.ensures, c.in_ok-extend_from_slice.ensures.items) at c.push_common.ensures)
