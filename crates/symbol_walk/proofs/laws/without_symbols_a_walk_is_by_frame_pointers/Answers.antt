-- Rules and candidates need symbols.
use Rattle.std.proofs.Common.{◌∙◌, ◌∷◌, List, ap}
use Rattle.stack_walk.specs.declared.frame.StackFrame.{StackFrame}
use Rattle.stack_walk.specs.Frames.{link_in, outermost, scan}
use Rattle.stack_walk.specs.Walk.{WalkValue, walk_end}
use Rattle.stack_walk.specs.Walk.{callers_in as pointer_callers}
use Rattle.symbol_walk.specs.Registers.{register_table}
use Rattle.symbol_walk.specs.Unwinder.{UnwinderValue, first_frame}
use Rattle.symbol_walk.specs.Walk.{callers_in, end_by_rules}
use Rattle.symbol_walk.proofs.WithoutLemmas.{no_rules, pointers_alone}
use Rattle.symbol_walk.proofs.laws.without_symbols_a_walk_is_by_frame_pointers.Goals as goal

pub returns : goal.returns
unfolding end_by_rules
returns c = λ s symbols context limit none.
    let u : UnwinderValue = record { stack = s; symbols = symbols; registers = register_table context.raw } in
    let first = first_frame context in
    let last = outermost first (callers_in u first) in
    let is = pointers_alone u first none in
    let walk : List StackFrame → StackFrame → WalkValue =
    λ frames end. record { frames = frames; candidates = scan s (link_in context) frames limit; end = walk_end s end } in
    rw (no_rules u last none) (ap (λ (frames : List StackFrame). walk frames last.frame) is.0 ∙ ap (walk (first.frame ∷ pointer_callers s first.frame)) is.1)
