-- The frames so far and the callers of the last one are those of the first, and each new one stands higher on the stack.
use Rattle.std.proofs.Common.{◌≡◌, ◌+◌, ◌-◌, ◌++◌, ◌∷◌}
use Rattle.stack_walk.specs.Frames.{outermost, stack_of}
use Rattle.stack_walk.specs.Walk.{callers_in}
use Rattle.stack_walk.proofs.CallerLemmas.{end_of}
use Rattle.stack_walk.proofs.walk.climb.Given as goal

abbrev pub invariant-loop-caller : goal.invariant-loop-caller
invariant-loop-caller l =
    let s = stack_of l.stack in
    let first = l.fn.first in
    record {
      frames : l.frames.items ++ callers_in s l.last ≡ first ∷ callers_in s first;
      last : outermost l.last (callers_in s l.last) ≡ outermost first (callers_in s first);
    }

abbrev pub decreases-loop-caller : goal.decreases-loop-caller
decreases-loop-caller l = end_of (stack_of l.stack) + 1 - l.last.stack_pointer
