-- One character more was pushed, or a surrogate lacks its partner.
use Rattle.std.proofs.Common.{arith, append_assoc, string_bytes}
use Rattle.minidump_bytes.proofs.EntryLemmas.{length-entries}
use Rattle.minidump_bytes.specs.Text16.{units_at}
use Rattle.minidump_bytes.specs.Layout.{number_layout}
use Rattle.minidump_bytes.proofs.UnitLemmas.{no_units, text_done, text_none}
use Rattle.minidump_bytes.proofs.text16.decode_chars.Goals as goal

pub loop-at-preserved : goal.loop-at-preserved
loop-at-preserved c = record {
  text = rw (c.in_ok-push.ensures.bytes, append_assoc) (rw (c.char_at-found.ensures.first, c.in-Some.is) at c.loop-at.invariant.text);
  paired = rw (c.char_at-found.ensures.first, c.in-Some.is) at c.loop-at.invariant.paired;
}

pub returns : goal.returns
returns c =
    let units = units_at c.args.endian c.args.offset c.args.count c.args.bytes.now in
    let len = length-entries (number_layout 2) c.args.endian c.args.bytes.now c.args.offset c.args.count in
    text_done units _ (string_bytes c.loop-at.text)
    (no_units units c.loop-at.at (rw len (omega (arith, c.loop-at-test.false)))) c.loop-at.invariant.text c.loop-at.invariant.paired

pub returns-in_default : goal.returns-in_default
returns-in_default c =
    let units = units_at c.args.endian c.args.offset c.args.count c.args.bytes.now in
    text_none units _ _ (rw c.in_default.is at c.char_at-found.ensures.first) c.loop-at.invariant.paired
