-- One byte more: a digit is kept, another left out.
use Rattle.std.proofs.Common.{◌∙◌, ◌<◌, length, rules, sym, string_bytes}
use Rattle.minidump_modules.specs.CodeId.{kept_digits}
use Rattle.minidump_modules.proofs.KeptLemmas.{digit_kept, kept_digit, kept_other}
use Rattle.minidump_modules.proofs.code_id.kept_digits.Goals.{then-is_ascii_hexdigit+in_ok-push, else-is_ascii_hexdigit}
use Rattle.minidump_modules.proofs.code_id.kept_digits.Goals as goal

pub loop-byte-init : goal.loop-byte-init
unfolding kept_digits
loop-byte-init c = c.new-digits.ensures.bytes

pub loop-byte-preserved : goal.loop-byte-preserved
loop-byte-preserved c = elim c.if-is_ascii_hexdigit.branch [
  | then-is_ascii_hexdigit+in_ok-push w ↦ rw w.digits-is (kept_digit c.args.bytes.now c.loop-byte.byte-index (string_bytes c.loop-byte.digits)
      (string_bytes w.push.new.self) w.to_ascii_lowercase.result c.loop-byte-test.true c.loop-byte.invariant
      (sym c.is_ascii_hexdigit.ensures.value ∙ w.if-is_ascii_hexdigit.true) w.to_ascii_lowercase.ensures.value w.in_ok-push.ensures.bytes)
  | else-is_ascii_hexdigit w ↦ rw w.digits-is (kept_other c.args.bytes.now c.loop-byte.byte-index
      (string_bytes c.loop-byte.digits) c.loop-byte-test.true c.loop-byte.invariant (sym c.is_ascii_hexdigit.ensures.value ∙ w.if-is_ascii_hexdigit.false))
]

pub returns-in_err-push-clause-some : goal.returns-in_err-push-clause-some
returns-in_err-push-clause-some c =
    let some : 0 < length (kept_digits c.args.bytes.now) = digit_kept c.args.bytes.now c.loop-byte.byte-index c.loop-byte-test.true
    (sym c.is_ascii_hexdigit.ensures.value ∙ c.if-is_ascii_hexdigit.true) in search rules
