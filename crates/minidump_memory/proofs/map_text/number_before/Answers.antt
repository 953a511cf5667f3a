-- One byte more: it ends the number, is a digit of it, or shows that there is none.
use Rattle.std.proofs.Common.{◌≡◌, ◌≢◌, ◌<◌, arith, get_or, length, sym}
use Rattle.std.specs.Char.{digit_value}
use Rattle.std.proofs.lemmas.Int.Digits.{digits_more}
use Rattle.std.proofs.lemmas.Str.{IsCharBoundary-after_ascii}
use Rattle.minidump_bytes.proofs.DigitLemmas.{number_next}
use Rattle.minidump_memory.proofs.BeforeLemmas.{before_empty, before_end, before_found, before_no_digit, before_past, lacks_more}
use Rattle.minidump_memory.proofs.map_text.number_before.Goals as goal

pub returns-then-at-eq0 : goal.returns-then-at-eq0
returns-then-at-eq0 c =
    let text = c.args.text.now in
    let lt : c.loop-at.at < length text = omega (arith, c.loop-at-test.true, c.as_bytes-next-items.ensures.len) in
    let here : get_or text c.loop-at.at 0 ≡ c.args.byte = rw c.as_bytes-next-items.ensures.value at c.if-next-byte.true in
    sym (before_empty c.args.base c.args.byte text c.loop-at.at c.loop-at.invariant.lacks lt here c.if-at-eq0.true)

pub range_from-requires : goal.range_from-requires
range_from-requires c =
    let text = c.args.text.now in
    let lt : c.loop-at.at < length text = omega (arith, c.loop-at-test.true, c.as_bytes-next-items.ensures.len) in
    let here : get_or text c.loop-at.at 0 ≡ c.args.byte = rw c.as_bytes-next-items.ensures.value at c.if-next-byte.true in
    λ _. IsCharBoundary-after_ascii text c.loop-at.at c.utf8.text lt (omega (arith, here, c.requires.ascii))

pub returns-then-next-byte : goal.returns-then-next-byte
returns-then-next-byte c =
    let text = c.args.text.now in
    let lt : c.loop-at.at < length text = omega (arith, c.loop-at-test.true, c.as_bytes-next-items.ensures.len) in
    let here : get_or text c.loop-at.at 0 ≡ c.args.byte = rw c.as_bytes-next-items.ensures.value at c.if-next-byte.true in
    rw c.range_from.ensures.value (sym (before_found c.args.base c.args.byte text c.loop-at.at c.loop-at.invariant.lacks c.loop-at.value lt here
    (omega (arith, c.if-at-eq0.false)) c.loop-at.invariant.digits c.loop-at.invariant.value c.loop-at.invariant.fits))

pub returns-then-digit-base : goal.returns-then-digit-base
returns-then-digit-base c =
    let text = c.args.text.now in
    let other : get_or text c.loop-at.at 0 ≢ c.args.byte = rw c.as_bytes-next-items.ensures.value at c.if-next-byte.false in
    let digit : c.digit_of-digit.result ≡ digit_value (get_or text c.loop-at.at 0) = rw c.as_bytes-next-items.ensures.value at c.digit_of-digit.ensures in
    sym (before_no_digit c.args.base c.args.byte text c.loop-at.at c.loop-at.invariant.lacks other (omega (arith, digit, c.if-digit-base.true)))

pub returns-in_err-checked_mul : goal.returns-in_err-checked_mul
returns-in_err-checked_mul c =
    let text = c.args.text.now in
    let other : get_or text c.loop-at.at 0 ≢ c.args.byte = rw c.as_bytes-next-items.ensures.value at c.if-next-byte.false in
    let digit : c.digit_of-digit.result ≡ digit_value (get_or text c.loop-at.at 0) = rw c.as_bytes-next-items.ensures.value at c.digit_of-digit.ensures in
    let large = c.in_err-checked_mul.ensures in
    rw c.from_residual.ensures (sym (before_past c.args.base c.args.byte text c.loop-at.at c.loop-at.invariant.lacks
    c.loop-at.value c.digit_of-digit.result (omega (arith, c.requires.low)) other c.loop-at.invariant.value digit (omega (arith, large))))

pub returns-in_err-value : goal.returns-in_err-value
returns-in_err-value c =
    let text = c.args.text.now in
    let other : get_or text c.loop-at.at 0 ≢ c.args.byte = rw c.as_bytes-next-items.ensures.value at c.if-next-byte.false in
    let digit : c.digit_of-digit.result ≡ digit_value (get_or text c.loop-at.at 0) = rw c.as_bytes-next-items.ensures.value at c.digit_of-digit.ensures in
    let large = c.in_err-value.ensures in
    let product = c.in_ok-checked_mul.ensures.1 in
    rw c.from_residual-in_err-value.ensures (sym (before_past c.args.base c.args.byte text c.loop-at.at c.loop-at.invariant.lacks
    c.loop-at.value c.digit_of-digit.result (omega (arith, c.requires.low)) other c.loop-at.invariant.value digit (omega (arith, large, product))))

pub loop-at-preserved : goal.loop-at-preserved
loop-at-preserved c =
    let text = c.args.text.now in
    let lt : c.loop-at.at < length text = omega (arith, c.loop-at-test.true, c.as_bytes-next-items.ensures.len) in
    let other : get_or text c.loop-at.at 0 ≢ c.args.byte = rw c.as_bytes-next-items.ensures.value at c.if-next-byte.false in
    let digit : c.digit_of-digit.result ≡ digit_value (get_or text c.loop-at.at 0) = rw c.as_bytes-next-items.ensures.value at c.digit_of-digit.ensures in
    record {
      value = number_next c.args.base text c.loop-at.at c.loop-at.value c.digit_of-digit.result _ _ lt c.loop-at.invariant.value digit
          c.in_ok-checked_mul.ensures.1 c.in_ok-value.ensures.1;
      digits = digits_more c.args.base text c.loop-at.at lt c.loop-at.invariant.digits (omega (arith, digit, c.if-digit-base.false));
      fits = rw c.in_ok-value.ensures.1 c.in_ok-value.ensures.0;
      lacks = lacks_more c.args.byte text c.loop-at.at lt c.loop-at.invariant.lacks other;
    }

pub returns : goal.returns
returns c =
    sym (before_end c.args.base c.args.byte c.args.text.now c.loop-at.at c.loop-at.invariant.lacks
    (omega (arith, c.loop-at-test.false, c.as_bytes-next-items.ensures.len)))
