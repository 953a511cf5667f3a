-- One unit more was pushed, or it isn't ASCII. What is ASCII is UTF-8.
use Rattle.std.proofs.Common.{◌≡◌, ◌∙◌, ◌<◌, sym, ap, inl, inr, arith, length, ◌+◌, take, ◌++◌, ◌∷◌, []}
use Rattle.std.proofs.lemmas.Bool.{cases_lt}
use Rattle.std.proofs.lemmas.List.{take_all, take_more}
use Rattle.std.proofs.lemmas.Nat.{le_or_l, le_or_r, or_lt}
use Rattle.std.proofs.lemmas.Str.{IsUtf8-from_ascii}
use Rattle.std.proofs.lemmas.Str.Ascii.{IsAscii-nil, IsAscii-push}
use Rattle.minidump_bytes.proofs.EntryLemmas.{length-entries}
use Rattle.minidump_bytes.specs.Layout.{number_layout}
use Rattle.minidump_bytes.specs.Text16.{units_at}
use Rattle.minidump_bytes.proofs.text16.ascii_at.Goals as goal

pub loop-i-init : goal.loop-i-init
loop-i-init c = record {
  len = c.in_ok-ascii.ensures.len;
  room = c.in_ok-ascii.ensures.exact;
  low = λ h. (IsAscii-nil, c.in_ok-ascii.ensures.items);
  high = λ h. absurd (omega arith);
}

pub loop-i-preserved : goal.loop-i-preserved
loop-i-preserved c =
    let units = units_at c.args.endian c.args.offset c.args.count c.args.bytes.now in
    let long : length units ≡ c.args.count = length-entries (number_layout 2) c.args.endian c.args.bytes.now c.args.offset c.args.count in
    let all = c.loop-i.all in
    let u = c.unit_at-unit.result in
    let before = c.loop-i.invariant in
    let pushed = c.push_reserved.ensures in
    record {
      len = omega (arith, pushed.len, before.len);
      room = pushed.capacity ∙ before.room;
      low = λ lt.
          let u_low : u < 0x80 = let le = le_or_r all u in omega arith in
          let so_far = before.low (let le = le_or_l all u in omega arith) in
          let more : take (c.loop-i.i + 1) units ≡ take c.loop-i.i units ++ u ∷ [] =
          rw c.unit_at-unit.ensures (take_more units c.loop-i.i 0 (rw long c.loop-i-test.true)) in (
            rw more (IsAscii-push (take c.loop-i.i units) u so_far.0 u_low),
            pushed.items ∙ ap (λ n. c.loop-i.ascii.items ++ n ∷ []) (omega (arith, u_low)) ∙ ap (λ l. l ++ u ∷ []) so_far.1 ∙ sym more,
          );
      high = λ ge. elim (cases_lt u 0x80) [
        | inl u_low ↦ elim (cases_lt all 0x80) [
          | inl all_low ↦ absurd (let lt = or_lt 7 all u all_low u_low in omega arith)
          | inr all_high ↦ before.high all_high
        ]
        | inr u_high ↦ (c.loop-i.i, rw (← c.unit_at-unit.ensures) u_high)
      ];
    }

pub from_utf8_unchecked-requires : goal.from_utf8_unchecked-requires
from_utf8_unchecked-requires c =
    let done = c.loop-i.invariant.low (omega (arith, c.if-all-ge128.false)) in
    IsUtf8-from_ascii _ (rw done.1 done.0)

pub returns : goal.returns
returns c =
    let units = units_at c.args.endian c.args.offset c.args.count c.args.bytes.now in
    let long : length units ≡ c.args.count = length-entries (number_layout 2) c.args.endian c.args.bytes.now c.args.offset c.args.count in
    let all_taken : take c.loop-i.i units ≡ units = take_all c.loop-i.i units (rw long c.loop-i-test.false) in
    let done = c.loop-i.invariant.low (omega (arith, c.if-all-ge128.false)) in
    (rw all_taken at done.0, ap (λ v. v.items) c.from_utf8_unchecked.ensures.value ∙ done.1 ∙ all_taken)
