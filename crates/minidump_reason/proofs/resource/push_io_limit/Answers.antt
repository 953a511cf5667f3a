-- The numbers are bits of the code and of the subcode.
use Rattle.minidump_reason.proofs.resource.push_io_limit.Goals as goal

pub returns : goal.returns
returns c = rw (c.limit.ensures.number, c.limit.ensures.code, c.limit.ensures.subcode) at
    (rw (c.bits_of-interval.ensures.bits, c.bits_of-permitted.ensures.bits, c.bits_of-observed.ensures.bits) at c.push.ensures)
