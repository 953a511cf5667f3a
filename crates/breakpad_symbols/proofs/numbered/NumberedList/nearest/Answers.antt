-- The last entry that isn't above the number has the greatest key.
use Rattle.breakpad_symbols.proofs.NumberedLemmas.{at_most, nearest_is, not_above, not_below}
use Rattle.breakpad_symbols.proofs.numbered.NumberedList.nearest.Goals as goal

pub returns : goal.returns
returns g c =
    let k = c.in_ok-record.field-0-0.now in
    let range = c.range.ensures.in_range tt in
    let entry = range.3 _ _ c.in_ok-record.ensures.steps in
    rw (← c.self.view_is)
    (nearest_is g.R.Numbered.number_of c.self.inside.records.items c.self.inside.firsts c.args.number k c.in_ok-record.record.now c.self.invariant
    (not_above k c.args.number entry.0.1) entry.1
    (λ q below some. not_below k q (range.4 _ _ c.in_ok-record.ensures.steps q (tt, at_most q c.args.number below) some)))
