-- A caller more, or the end.
use Rattle.std.proofs.Common.{◌≡◌, ◌∙◌, ◌++◌, [], ◌∷◌, Some, ap, append-nil, append_assoc, arith, refl, sym}
use Rattle.stack_walk.specs.Frames.{caller_of, outermost, stack_of}
use Rattle.stack_walk.specs.Walk.{callers_in}
use Rattle.stack_walk.proofs.CallerLemmas.{are_callers, callers_are, climbs}
use Rattle.stack_walk.proofs.walk.climb.Goals as goal

pub loop-caller-smaller : goal.loop-caller-smaller
loop-caller-smaller c =
    let s = stack_of c.args.stack.now in
    let is : caller_of s c.loop-caller.last ≡ Some c.in-Some.caller = sym c.in-Some.ensures in
    let up = climbs s c.loop-caller.last c.in-Some.caller is in
    omega (arith, up.0, up.2)

pub loop-caller-preserved : goal.loop-caller-preserved
loop-caller-preserved c =
    let s = stack_of c.args.stack.now in
    let caller = c.in-Some.caller in
    let next = callers_are s c.loop-caller.last (caller ∷ callers_in s caller) (outermost caller (callers_in s caller))
    (sym c.in-Some.ensures, are_callers s caller) in
    record {
      frames = rw (c.in_ok-push-2.ensures.items, append_assoc, next.0) c.loop-caller.invariant.frames;
      last = next.1 ∙ c.loop-caller.invariant.last;
    }

pub returns : goal.returns
returns c =
    let s = stack_of c.args.stack.now in
    let last = c.loop-caller.last in
    let done = callers_are s last [] last (rw c.in_default.is at (sym c.caller_of.ensures), refl) in
    record {
      frames = sym (append-nil c.loop-caller.frames.items) ∙ ap (λ callers. c.loop-caller.frames.items ++ callers) done.0 ∙ c.loop-caller.invariant.frames;
      last = done.1 ∙ c.loop-caller.invariant.last;
    }
