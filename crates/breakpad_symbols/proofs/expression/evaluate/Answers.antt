-- One word more: it ends the expression, has no meaning, or changes the values.
use Rattle.std.proofs.Common.{◌≡◌, ◌∙◌, sym, true, false}
use Rattle.minidump_bytes.specs.LinuxOsStr.{text_of}
use Rattle.breakpad_symbols.specs.Cfi.{is_label}
use Rattle.breakpad_symbols.proofs.RuleLemmas.{value_end, value_ends, value_none, value_next}
use Rattle.breakpad_symbols.proofs.expression.evaluate.Goals as goal

pub returns-then-is_label : goal.returns-then-is_label
returns-then-is_label g c =
    let is : is_label (text_of c.in-Some.word) ≡ true = cc in
    c.only.ensures
    ∙ sym (c.loop-word.invariant
    ∙ value_ends (g.S.UnwindState.value c.args.state.now) c.args.frame_address
    (text_of c.loop-word.rest) (text_of c.in-Some.word) (text_of c.in-Some.after) c.loop-word.values c.in-Some.ensures is)

pub returns-then-not-branch : goal.returns-then-not-branch
returns-then-not-branch g c =
    let goes : is_label (text_of c.in-Some.word) ≡ false = cc in
    let none = (rw c.if-not-branch.true at c.in_ok-step.ensures) in
    sym (c.loop-word.invariant
    ∙ value_none (g.S.UnwindState.value c.args.state.now) c.args.frame_address
    (text_of c.loop-word.rest) (text_of c.in-Some.word) (text_of c.in-Some.after) c.loop-word.values c.in-Some.ensures goes none)

pub loop-word-preserved : goal.loop-word-preserved
loop-word-preserved g c =
    let goes : is_label (text_of c.in-Some.word) ≡ false = cc in
    let some = (rw c.if-not-branch.false at c.in_ok-step.ensures) in
    c.loop-word.invariant
    ∙ value_next (g.S.UnwindState.value c.args.state.now) c.args.frame_address
    (text_of c.loop-word.rest) (text_of c.in-Some.word) (text_of c.in-Some.after) c.loop-word.values _ c.in-Some.ensures goes some

pub returns : goal.returns
returns g c =
    c.only-2.ensures
    ∙ sym (c.loop-word.invariant
    ∙ value_end (g.S.UnwindState.value c.args.state.now) c.args.frame_address
    (text_of c.loop-word.rest) c.loop-word.values c.in_default.ensures)
