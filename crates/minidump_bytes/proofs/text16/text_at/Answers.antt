-- There is no unit, or all units are ASCII.
use Rattle.std.proofs.Common.{Some, [], refl, ap, ◌∙◌, sym, arith}
use Rattle.minidump_bytes.proofs.EntryLemmas.{length-entries}
use Rattle.minidump_bytes.specs.Text16.{units_at}
use Rattle.minidump_bytes.specs.Layout.{number_layout}
use Rattle.minidump_bytes.proofs.UnitLemmas.{no_units, text_done}
use Rattle.minidump_bytes.proofs.Utf16Lemmas.{ascii_text}
use Rattle.minidump_bytes.proofs.text16.text_at.Goals as goal

pub returns-then-count-eq0-clause-text : goal.returns-then-count-eq0-clause-text
returns-then-count-eq0-clause-text c =
    let units = units_at c.args.endian c.args.offset c.args.count c.args.bytes.now in
    let len = length-entries (number_layout 2) c.args.endian c.args.bytes.now c.args.offset c.args.count in
    rw c.new.ensures.bytes (text_done units units [] (no_units units 0 (rw len (omega (arith, c.if-count-eq0.true)))) refl refl)

pub returns-in-Some-clause-text : goal.returns-in-Some-clause-text
returns-in-Some-clause-text c =
    let units = units_at c.args.endian c.args.offset c.args.count c.args.bytes.now in
    let ascii = rw c.in-Some.is at c.in_ok-text.ensures in
    ap Some ascii.1 ∙ sym (ascii_text units ascii.0)
