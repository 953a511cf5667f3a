-- The name of the type, and then the details.
use Rattle.std.proofs.Common.{append_assoc}
use Rattle.minidump_reason.proofs.guard.push_guard.Goals as goal

pub returns : goal.returns
returns c = rw (← append_assoc, ← c.in_ok-push_name.ensures) c.push_guard_detail.ensures
