-- Each byte that was read is below 256.
use Rattle.std.proofs.Common.{◌<◌, ℕ, get_or}
use Rattle.minidump_format.proofs.format.guid.bytes_fit.Given as goal

abbrev pub invariant-loop-i : goal.invariant-loop-i
invariant-loop-i l = (k : ℕ) → k < l.i → get_or l.bytes k 0 < 256
