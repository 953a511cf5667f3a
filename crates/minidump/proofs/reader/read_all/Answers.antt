-- What was given before, and then what the last read gave.
use Rattle.std.proofs.KnownBytes.{Consumes-trans}
use Rattle.minidump.proofs.reader.read_all.Goals as goal

pub returns-then-is_err-clause-later : goal.returns-then-is_err-clause-later
returns-then-is_err-clause-later g c = (_, Consumes-trans _ _ _ _ _ c.loop-n.invariant.given c.in-Ok.ensures.takes.1)
