-- A caller more, or the end.
use Rattle.std.proofs.Common.{◌∙◌, ◌++◌, [], ◌∷◌, ap, append-nil, append_assoc, refl, sym}
use Rattle.std.specs.Option.{option_map}
use Rattle.stack_walk.specs.Frames.{outermost}
use Rattle.symbol_walk.specs.Unwinder.{frame_of, unwinder_of}
use Rattle.symbol_walk.specs.Walk.{callers_in, plain_frames}
use Rattle.symbol_walk.proofs.ReachLemmas.{are_callers, callers_are, falls}
use Rattle.symbol_walk.proofs.walk.Unwinder.climb.Goals as goal

pub loop-last-smaller : goal.loop-last-smaller
loop-last-smaller c =
    falls (unwinder_of c.args.self.now) (frame_of c.loop-last.last) (frame_of c.in-Some.caller)
    (sym c.in_ok-caller.ensures ∙ ap (option_map frame_of) c.in-Some.is)

pub loop-last-preserved : goal.loop-last-preserved
loop-last-preserved c =
    let u = unwinder_of c.args.self.now in
    let g = frame_of c.in-Some.caller in
    let next = callers_are u (frame_of c.loop-last.last) (g ∷ callers_in u g) (outermost g (callers_in u g))
    (sym c.in_ok-caller.ensures ∙ ap (option_map frame_of) c.in-Some.is, are_callers u g) in
    record {
      frames = rw (c.in_ok-push-2.ensures.items, append_assoc)
          (ap (λ callers. c.loop-last.frames.items ++ plain_frames callers) next.0 ∙ c.loop-last.invariant.frames);
      last = next.1 ∙ c.loop-last.invariant.last;
    }

pub returns : goal.returns
returns c =
    let frames = c.loop-last.frames.items in
    let last = frame_of c.loop-last.last in
    let done = callers_are (unwinder_of c.args.self.now) last [] last (sym c.in_ok-caller.ensures ∙ ap (option_map frame_of) c.in_default.is, refl) in
    record {
      frames = sym (append-nil frames) ∙ ap (λ callers. frames ++ plain_frames callers) done.0 ∙ c.loop-last.invariant.frames;
      last = done.1 ∙ c.loop-last.invariant.last;
    }
