-- As many addresses are made as numbers are gone through.
use Rattle.std.proofs.Common.{◌≡◌, length}
use Rattle.test_calls.proofs.lookup.addresses.Given as goal

abbrev pub invariant-loop-i : goal.invariant-loop-i
invariant-loop-i l = length l.asked.items ≡ l.i
