-- Breakpad's text by its two parts.
use Rattle.std.proofs.Common.{◌≡◌, ◌∙◌, sym, arith, take, drop, Some, None}
use Rattle.std.proofs.lemmas.List.{length-take}
use Rattle.minidump_bytes.specs.Digits.{number_of_digits}
use Rattle.minidump_modules.specs.DebugId.{sixteen_bytes}
use Rattle.minidump_modules.proofs.BreakpadLemmas.{breakpad_none, breakpad_some}
use Rattle.minidump_modules.proofs.RestLemmas.{rest_all}
use Rattle.minidump_modules.proofs.debug_id.DebugId.from_breakpad.Goals as goal

pub slice_bounds-sixteen_bytes-end : goal.slice_bounds-sixteen_bytes-end
slice_bounds-sixteen_bytes-end c = rw (length-take) (omega (arith, c.if-bytes-lt33.false))

pub sixteen_bytes-requires : goal.sixteen_bytes-requires
sixteen_bytes-requires c = rw (length-take) (omega (arith, c.if-bytes-lt33.false))

pub returns-in_err-appendix : goal.returns-in_err-appendix
returns-in_err-appendix c =
    let one : sixteen_bytes (take 32 c.args.text.now) ≡ Some c.in_ok-uuid.uuid = rw (← c.as_bytes-bytes.ensures.value)
    (sym c.sixteen_bytes.ensures ∙ c.in_ok-uuid.was) in
    let rest = rest_all 32 c.as_bytes-bytes.result.now in
    let two : number_of_digits 16 32 (drop 32 c.args.text.now) ≡ None = rw (← c.as_bytes-bytes.ensures.value, ← rest)
    (sym c.number_32.ensures ∙ c.in_err-appendix.was) in
    rw c.from_residual-in_err-appendix.ensures (sym (breakpad_none c.args.text.now c.in_ok-uuid.uuid one two))

pub returns : goal.returns
returns c =
    let one : sixteen_bytes (take 32 c.args.text.now) ≡ Some c.in_ok-uuid.uuid = rw (← c.as_bytes-bytes.ensures.value)
    (sym c.sixteen_bytes.ensures ∙ c.in_ok-uuid.was) in
    let rest = rest_all 32 c.as_bytes-bytes.result.now in
    let two : number_of_digits 16 32 (drop 32 c.args.text.now) ≡ Some c.in_ok-appendix.appendix = rw (← c.as_bytes-bytes.ensures.value, ← rest)
    (sym c.number_32.ensures ∙ c.in_ok-appendix.was) in
    rw c.from_parts.ensures (sym (breakpad_some c.args.text.now c.in_ok-uuid.uuid c.in_ok-appendix.appendix
    (omega (arith, c.if-bytes-lt33.false, c.as_bytes-bytes.ensures.len)) (omega (arith, c.if-bytes-gt40.false, c.as_bytes-bytes.ensures.len)) one two))
