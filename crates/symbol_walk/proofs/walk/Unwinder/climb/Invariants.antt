-- The frames so far and the callers of the last one are those of the first, and after each less of the stack is left.
use Rattle.std.proofs.Common.{◌≡◌, ◌++◌, ◌∷◌}
use Rattle.stack_walk.specs.Frames.{outermost}
use Rattle.symbol_walk.specs.Unwinder.{frame_of, unwinder_of}
use Rattle.symbol_walk.specs.Walk.{callers_in, plain_frames}
use Rattle.symbol_walk.proofs.ReachLemmas.{left}
use Rattle.symbol_walk.proofs.walk.Unwinder.climb.Given as goal

abbrev pub invariant-loop-last : goal.invariant-loop-last
invariant-loop-last l =
    let u = unwinder_of l.self in
    let first = frame_of l.fn.first in
    let last = frame_of l.last in
    record {
      frames : l.frames.items ++ plain_frames (callers_in u last) ≡ plain_frames (first ∷ callers_in u first);
      last : outermost last (callers_in u last) ≡ outermost first (callers_in u first);
    }

abbrev pub decreases-loop-last : goal.decreases-loop-last
decreases-loop-last l = left (unwinder_of l.self) (frame_of l.last)
