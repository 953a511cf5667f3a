-- Callers lie on the stack, one after the other.
use Rattle.std.proofs.Common.{◌≡◌, ◌∙◌, ◌+◌, ◌/◌, ◌∷◌, length, ap, arith, length-append}
use Rattle.std.proofs.lemmas.List.{length-take}
use Rattle.stack_walk.specs.declared.frame.StackFrame.{StackFrame}
use Rattle.stack_walk.specs.Frames.{caller_of, context_frame, link_in, scan, stack_bytes}
use Rattle.stack_walk.specs.Walk.{callers_in}
use Rattle.stack_walk.proofs.CallerLemmas.{few_callers, frames_by}
use Rattle.stack_walk.proofs.laws.frames_are_few.Goals as goal

pub returns : goal.returns
returns c = λ s context limit frames are.
    let walk = context_frame context ∷ callers_in s (context_frame context) in
    let candidates = scan s (link_in context) walk limit in
    let few = few_callers (caller_of s) (length (stack_bytes s) / 8) (context_frame context) in
    let whole : length frames ≡ length walk + length candidates = ap length ((frames_by s context limit frames).0 are) ∙ length-append walk candidates in
    omega (arith, few, whole, length-take {A = StackFrame})
