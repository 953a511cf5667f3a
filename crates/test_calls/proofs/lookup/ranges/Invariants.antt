-- As many ranges are made as numbers are gone through.
use Rattle.std.proofs.Common.{◌≡◌, length}
use Rattle.test_calls.proofs.lookup.ranges.Given as goal

abbrev pub invariant-loop-i : goal.invariant-loop-i
invariant-loop-i l = length l.ranges.items ≡ l.i
