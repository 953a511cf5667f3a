-- One line more: it ends the records, is a call at the address, or is passed over.
use Rattle.std.proofs.Common.{◌≡◌, arith, sym, true, false}
use Rattle.minidump_bytes.specs.LinuxOsStr.{text_of}
use Rattle.breakpad_symbols.specs.Function.{ends_function}
use Rattle.breakpad_symbols.proofs.InlineLemmas.{calls_end, calls_ends, calls_more, calls_skip}
use Rattle.breakpad_symbols.proofs.LineLemmas.{a_line}
use Rattle.breakpad_symbols.proofs.function.calls_in.Goals as goal

pub loop-line-smaller-in_ok-push : goal.loop-line-smaller-in_ok-push
loop-line-smaller-in_ok-push c =
    omega (arith, (a_line c.loop-line.rest.now (text_of c.in-Some.line) c.in-Some.after.now (sym c.in-Some.ensures)).1)

pub loop-line-smaller : goal.loop-line-smaller
loop-line-smaller c = omega (arith, (a_line c.loop-line.rest.now (text_of c.in-Some.line) c.in-Some.after.now (sym c.in-Some.ensures)).1)

pub returns-then-ends_function : goal.returns-then-ends_function
returns-then-ends_function c =
    let ends : ends_function (text_of c.in-Some.line) ≡ true = cc in
    calls_ends c.args.address ends_function c.args.text.now c.loop-line.calls.items c.loop-line.rest.now c.loop-line.invariant
    (text_of c.in-Some.line) c.in-Some.after.now (sym c.in-Some.ensures) ends

pub loop-line-preserved-in_ok-push : goal.loop-line-preserved-in_ok-push
loop-line-preserved-in_ok-push c =
    let goes : ends_function (text_of c.in-Some.line) ≡ false = cc in
    rw c.in_ok-push.ensures.items
    (calls_more c.args.address ends_function c.args.text.now c.loop-line.calls.items c.loop-line.rest.now c.loop-line.invariant
    (text_of c.in-Some.line) c.in-Some.after.now _ (sym c.in-Some.ensures) goes c.in-Some-call_at.ensures)

pub loop-line-preserved : goal.loop-line-preserved
loop-line-preserved c =
    let goes : ends_function (text_of c.in-Some.line) ≡ false = cc in
    calls_skip c.args.address ends_function c.args.text.now c.loop-line.calls.items c.loop-line.rest.now c.loop-line.invariant
    (text_of c.in-Some.line) c.in-Some.after.now (sym c.in-Some.ensures) goes c.in_default-call_at.ensures

pub returns : goal.returns
returns c =
    calls_end c.args.address ends_function c.args.text.now c.loop-line.calls.items c.loop-line.rest.now c.loop-line.invariant c.in_default.ensures
