-- The codes before the index ascend.
use Rattle.minidump_reason.proofs.NamesLemmas.{AscendsBefore}
use Rattle.minidump_reason.proofs.names.is_ascending.Given as goal

abbrev pub invariant-loop-i : goal.invariant-loop-i
invariant-loop-i l = AscendsBefore l.entries l.i
