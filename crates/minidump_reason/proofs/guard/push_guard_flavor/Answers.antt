-- Each row of the match says which bits its numbers are.
use Rattle.std.proofs.lemmas.Bool.{ne_eqb}
use Rattle.minidump_reason.specs.ReasonText.{guard_flavor}
use Rattle.minidump_reason.proofs.guard.push_guard_flavor.Goals as goal

pub returns-in-1 : goal.returns-in-1
unfolding guard_flavor
returns-in-1 c = rw (c.in-1.is, c.if-subcode-eq0.true) (rw (c.bits_of.ensures.bits, c.bits_of-low.ensures.bits, c.if-subcode-eq0.true) at c.push_guard.ensures)

pub returns-in-1-2 : goal.returns-in-1-2
unfolding guard_flavor
returns-in-1-2 c =
    rw (c.in-1.is, ne_eqb c.args.subcode 0 c.if-subcode-eq0.false) (rw (c.bits_of.ensures.bits, c.bits_of-low.ensures.bits) at c.push_guard-in-1-2.ensures)

pub returns-in-2 : goal.returns-in-2
unfolding guard_flavor
returns-in-2 c = rw c.in-2.is (rw (c.bits_of.ensures.bits, c.bits_of-low.ensures.bits) at c.push_guard-in-2.ensures)

pub returns-in-4 : goal.returns-in-4
unfolding guard_flavor
returns-in-4 c = rw c.in-4.is (rw (c.bits_of.ensures.bits, c.bits_of-low.ensures.bits) at c.push_guard-in-4.ensures)

pub returns-in-5 : goal.returns-in-5
unfolding guard_flavor
returns-in-5 c = rw c.in-5.is (rw c.bits_of.ensures.bits at c.push_guard-in-5.ensures)

pub returns-in-6 : goal.returns-in-6
unfolding guard_flavor
returns-in-6 c = rw c.in-6.is (rw c.bits_of.ensures.bits at c.push_guard-in-6.ensures)
