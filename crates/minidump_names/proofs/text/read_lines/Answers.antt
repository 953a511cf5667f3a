-- One line more, and the end.
use Rattle.std.proofs.Common.{◌∙◌, length, sym, arith}
use Rattle.std.proofs.lemmas.Result.{err_from_is_err_and}
use Rattle.minidump_bytes.specs.LinuxOsStr.{text_of}
use Rattle.minidump_bytes.proofs.LeftLemmas.{IsNext, all_given, next_left, one_given}
use Rattle.minidump_names.specs.NamesText.{lines_in}
use Rattle.minidump_names.proofs.TextLemmas.{lines_more, error_at}
use Rattle.minidump_names.proofs.text.read_lines.Goals as goal

pub loop-line-preserved : goal.loop-line-preserved
loop-line-preserved c =
    let lines = lines_in c.args.text.now in
    let i = length c.loop-line.yielded in
    let line = text_of c.in-Some.line in
    let next : IsNext lines i line line c.next.new.self = next_left lines i line line _ (sym c.loop-line.invariant.left ∙ c.in-Some.ensures.steps) in
    let adds_line = rw (c.as_bytes.ensures, c.loop-line.invariant.listings) at c.in_ok-read_line.ensures in
    let both = lines_more lines i line _ next.inside next.item c.loop-line.invariant.lines adds_line in
    rw (one_given c.loop-line.yielded c.in-Some.line) (record {
      left = next.left;
      number = omega (arith, c.loop-line.invariant.number);
      lines = both.0;
      listings = both.1;
    })

pub returns-in_err-read_line : goal.returns-in_err-read_line
returns-in_err-read_line c =
    let lines = lines_in c.args.text.now in
    let i = length c.loop-line.yielded in
    let line = text_of c.in-Some.line in
    let next : IsNext lines i line line c.next.new.self = next_left lines i line line _ (sym c.loop-line.invariant.left ∙ c.in-Some.ensures.steps) in
    let error = rw (c.as_bytes.ensures, c.loop-line.invariant.listings, c.loop-line.invariant.number) at c.in_err-read_line.ensures in
    let p = err_from_is_err_and c.from_residual.result c.from_residual.ensures.1 in
    rw (p.1, p.2) (error_at c.args.text.now i line _ next.inside next.item c.loop-line.invariant.lines error)

pub returns : goal.returns
returns c =
    let all = all_given (lines_in c.args.text.now) (length c.loop-line.yielded) (sym c.loop-line.invariant.left ∙ c.in-None.ensures.steps.0) in
    (rw all at c.loop-line.invariant.lines, rw all at c.loop-line.invariant.listings)
