-- The codes from the index on are of other families.
use Rattle.std.proofs.Common.{◌≢◌, ℕ, ◌<◌, ◌≤◌, length, get_or}
use Rattle.minidump_names.specs.declared.line.Listing.{Listing as Lent}
use Rattle.minidump_names.proofs.text.is_above.Given as goal

abbrev pub invariant-loop-i : goal.invariant-loop-i
invariant-loop-i l = (k : ℕ) (d : Lent) → l.i ≤ k → k < length l.listings → (get_or l.listings k d).family ≢ l.family
