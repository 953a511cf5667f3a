-- The number of 64 bits, where it has 32 bits.
use Rattle.std.proofs.Common.{arith, sym}
use Rattle.minidump_memory.proofs.BeforeLemmas.{narrow_large, narrow_none, narrow_some}
use Rattle.minidump_memory.proofs.map_text.device_before.Goals as goal

pub returns-in_err-number : goal.returns-in_err-number
returns-in_err-number c = rw c.from_residual.ensures (sym (narrow_none 16 c.args.byte c.args.text.now (sym c.in_err-number.ensures)))

pub returns-then-number : goal.returns-then-number
returns-then-number c =
    sym (narrow_some 16 c.args.byte c.args.text.now c.in_ok-number.number c.in_ok-number.rest.now (sym c.in_ok-number.ensures) (omega (arith, c.if-number.true)))

pub returns-else-number : goal.returns-else-number
returns-else-number c =
    sym (narrow_large 16 c.args.byte c.args.text.now c.in_ok-number.number c.in_ok-number.rest.now (sym c.in_ok-number.ensures) (omega (arith, c.if-number.false)))
