-- The lines by marks are those by what the marks say.
use Rattle.std.proofs.Common.{string_bytes}
use Rattle.std.proofs.lemmas.List.{take_all}
use Rattle.crash_text.proofs.MarkLemmas.{marked_lines}
use Rattle.crash_text.proofs.modules.push_named.Goals as goal

pub returns : goal.returns
returns c =
    let all = take_all c.loop-index.index-index c.as_slice-index-items.result.now c.loop-index-test.false in
    marked_lines c.args.page c.in_ok-marks.marks.items (string_bytes c.args.out.now) (string_bytes c.loop-index.out)
    (rw (c.as_slice-loaded.ensures.value, c.as_slice-threads.ensures.value) at c.in_ok-marks.ensures)
    (rw (all, c.as_slice-index-items.ensures.value) at c.loop-index.invariant)
