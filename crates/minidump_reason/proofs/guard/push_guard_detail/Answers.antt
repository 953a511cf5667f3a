-- The bits of a program's own guard.
use Rattle.minidump_reason.specs.ReasonText.{guard_detail}
use Rattle.minidump_reason.proofs.guard.push_guard_detail.Goals as goal

pub returns-in-3 : goal.returns-in-3
unfolding guard_detail
returns-in-3 c = rw c.in-3.is (rw c.bits_of-namespace.ensures.bits at c.push_pieces.ensures.ok)
