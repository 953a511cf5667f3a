-- One record more: it is the first of its number, or there was one before.
use Rattle.std.proofs.Common.{◌∙◌, sym}
use Rattle.breakpad_symbols.proofs.NumberedLemmas.{first_step}
use Rattle.breakpad_symbols.proofs.numbered.NumberedList.from_records.Goals as goal

pub loop-record-preserved : goal.loop-record-preserved
loop-record-preserved g c = λ number.
    c.in_ok-put_first.ensures number
    ∙ rw (c.loop-record.invariant number)
    (sym (first_step g.R.Numbered.number_of number c.deref-record-items.result.now c.loop-record.record-index c.record-item.result
    c.loop-record-test.true c.record-item.is))
