-- The entries are those of the indices before.
use Rattle.std.proofs.Common.{◌≡◌, map, take}
use Rattle.minidump_index.proofs.RangedEntries.{entries_in}
use Rattle.minidump_index.proofs.index.entries_with_range.Given as goal

abbrev pub invariant-loop-index : goal.invariant-loop-index
invariant-loop-index g l = map g.S.Stored.value l.entries.items ≡ entries_in (take l.index (map g.R.Region.range l.regions))
