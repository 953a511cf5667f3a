-- One more code ascends.
use Rattle.std.proofs.Common.{arith}
use Rattle.minidump_reason.proofs.NamesLemmas.{ascends_more}
use Rattle.minidump_reason.proofs.names.is_ascending.Goals as goal

pub loop-i-preserved : goal.loop-i-preserved
loop-i-preserved c = ascends_more c.args.entries.now c.loop-i.i _ _ (omega arith) (omega arith) c.loop-i.invariant c.if-entries-i.false
