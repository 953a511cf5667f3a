-- The last item that is chosen among those below the index.
use Rattle.std.proofs.Common.{take}
use Rattle.std.specs.Fn.{FnReturnsAt}
use Rattle.crash_threads.specs.Last.{IsLastIndex}
use Rattle.crash_threads.proofs.last.last_index.Given as goal

abbrev pub invariant-loop-index : goal.invariant-loop-index
invariant-loop-index g l = IsLastIndex (FnReturnsAt g.F.Fn l.is_chosen) (take l.index l.items) l.last
