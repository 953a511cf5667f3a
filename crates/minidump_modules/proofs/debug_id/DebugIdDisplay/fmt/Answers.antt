-- What is written in each case is the text of the identifier.
use Rattle.minidump_bytes.proofs.HexLemmas.{padded_upper_hex}
use Rattle.minidump_modules.proofs.DisplayLemmas.{guid_is, guid_with_is, stamp_is, stamp_with_is}
use Rattle.minidump_modules.proofs.debug_id.DebugIdDisplay.fmt.Goals as goal

pub returns-then-appendix-eq0-clause-writes : goal.returns-then-appendix-eq0-clause-writes
returns-then-appendix-eq0-clause-writes g c =
    rw (← guid_is c.args.self.now c.in-Guid.uuid c.in-Guid.appendix c.in-Guid.is c.if-appendix-eq0.true) c.write.ensures.writes

pub returns-else-appendix-eq0-clause-writes : goal.returns-else-appendix-eq0-clause-writes
returns-else-appendix-eq0-clause-writes g c =
    rw (← guid_with_is c.args.self.now c.in-Guid.uuid c.in-Guid.appendix c.in-Guid.is c.if-appendix-eq0.false)
    (rw c.in_radix.ensures at c.write-else-appendix-eq0.ensures.writes)

pub returns-then-age-eq0-clause-writes : goal.returns-then-age-eq0-clause-writes
returns-then-age-eq0-clause-writes g c =
    rw (← stamp_is c.args.self.now c.in-Stamp.stamp c.in-Stamp.age c.in-Stamp.is c.if-age-eq0.true, ← padded_upper_hex 8 c.in-Stamp.stamp)
    (simp (c.laid_out.ensures, c.in_radix-then-age-eq0.ensures) at c.write-then-age-eq0.ensures.writes)

pub returns-else-age-eq0-clause-writes : goal.returns-else-age-eq0-clause-writes
returns-else-age-eq0-clause-writes g c =
    rw (← stamp_with_is c.args.self.now c.in-Stamp.stamp c.in-Stamp.age c.in-Stamp.is c.if-age-eq0.false, ← padded_upper_hex 8 c.in-Stamp.stamp)
    (simp (c.laid_out-else-age-eq0.ensures, c.in_radix-else-age-eq0.ensures, c.in_radix-else-age-eq0-2.ensures) at c.write-else-age-eq0.ensures.writes)
