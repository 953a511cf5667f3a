-- One pair more: it is malformed, or its range has the address, or it hasn't.
use Rattle.std.proofs.Common.{◌∙◌, sym, refl}
use Rattle.minidump_bytes.specs.LinuxOsStr.{text_of}
use Rattle.breakpad_symbols.proofs.InlineLemmas.{covered_end, covered_more, covered_no_first, covered_no_size, covered_odd}
use Rattle.breakpad_symbols.proofs.inline.any_covers.Goals as goal

pub returns-in_err-size : goal.returns-in_err-size
returns-in_err-size c =
    c.from_residual.ensures
    ∙ sym (c.loop-first.invariant
    ∙ covered_odd c.args.address c.loop-first.covered (text_of c.loop-first.rest) (text_of c.in-Some.first) (text_of c.in-Some.after) c.in-Some.ensures
    c.in_err-size.ensures)

pub returns-in_err-first : goal.returns-in_err-first
returns-in_err-first c =
    c.from_residual-in_err-first.ensures
    ∙ sym (c.loop-first.invariant
    ∙ covered_no_first c.args.address c.loop-first.covered (text_of c.loop-first.rest) (text_of c.in-Some.first) (text_of c.in-Some.after)
    (text_of c.in_ok-size.size) (text_of c.in_ok-size.more) c.in-Some.ensures c.in_ok-size.ensures
    (rw c.as_bytes.ensures at c.in_err-first.ensures))

pub returns-in_err-size-2 : goal.returns-in_err-size-2
returns-in_err-size-2 c =
    c.from_residual-in_err-size-2.ensures
    ∙ sym (c.loop-first.invariant
    ∙ covered_no_size c.args.address c.loop-first.covered (text_of c.loop-first.rest) (text_of c.in-Some.first) (text_of c.in-Some.after)
    (text_of c.in_ok-size.size) (text_of c.in_ok-size.more) c.in-Some.ensures c.in_ok-size.ensures
    (rw c.as_bytes-in-Some.ensures at c.in_err-size-2.ensures))

pub loop-first-preserved-then-covered : goal.loop-first-preserved-then-covered
loop-first-preserved-then-covered c =
    c.loop-first.invariant
    ∙ covered_more c.args.address c.loop-first.covered (text_of c.loop-first.rest) (text_of c.in-Some.first) (text_of c.in-Some.after)
    (text_of c.in_ok-size.size) (text_of c.in_ok-size.more) c.in_ok-first.first c.in_ok-size-2.size c.in-Some.ensures c.in_ok-size.ensures
    (rw c.as_bytes.ensures at c.in_ok-first.ensures) (rw c.as_bytes-in-Some.ensures at c.in_ok-size-2.ensures)
    ∙ rw c.if-covered.true refl

pub loop-first-preserved : goal.loop-first-preserved
loop-first-preserved c =
    c.loop-first.invariant
    ∙ covered_more c.args.address c.loop-first.covered (text_of c.loop-first.rest) (text_of c.in-Some.first) (text_of c.in-Some.after)
    (text_of c.in_ok-size.size) (text_of c.in_ok-size.more) c.in_ok-first.first c.in_ok-size-2.size c.in-Some.ensures c.in_ok-size.ensures
    (rw c.as_bytes.ensures at c.in_ok-first.ensures) (rw c.as_bytes-in-Some.ensures at c.in_ok-size-2.ensures)
    ∙ rw (c.if-covered.false, c.covers-covered.ensures) refl

pub returns : goal.returns
returns c = sym (c.loop-first.invariant ∙ covered_end c.args.address c.loop-first.covered (text_of c.loop-first.rest) c.in_default.ensures)
