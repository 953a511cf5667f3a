-- The digits of both halves.
use Rattle.std.proofs.Common.{arith}
use Rattle.minidump_context.proofs.WideHexLemmas.{halves}
use Rattle.minidump_context.proofs.print.lines.push_wide.Goals as goal

pub returns : goal.returns
returns c =
    rw (halves c.args.value (omega (arith, c.ranges.value.fits)) (omega (arith, c.if-high-eq0.false))) c.push_pieces-2.ensures.ok
