-- The map has the first records of each number so far.
use Rattle.std.proofs.Common.{take}
use Rattle.breakpad_symbols.specs.Numbered.{HasFirsts}
use Rattle.breakpad_symbols.proofs.numbered.NumberedList.from_records.Given as goal

abbrev pub invariant-loop-record : goal.invariant-loop-record
invariant-loop-record g l = HasFirsts g.R.Numbered.number_of (take l.record-index l.record-items) l.firsts
