-- What is found is found among the words that are left.
use Rattle.std.proofs.Common.{◌≡◌, ◌+◌, ◌-◌}
use Rattle.symbol_walk.specs.Walk.{restart_of, scanned_words}
use Rattle.symbol_walk.specs.Unwinder.{unwinder_of}
use Rattle.symbol_walk.proofs.ReachLemmas.{found_from}
use Rattle.symbol_walk.proofs.walk.Unwinder.restart_of.Given as goal

abbrev pub invariant-loop-index : goal.invariant-loop-index
invariant-loop-index l = found_from (unwinder_of l.self) l.frame (l.first + l.index) (scanned_words l.frame.trust - l.index)
    ≡ restart_of (unwinder_of l.self) l.frame
