-- The slots before the k-th of the walk have their entries.
use Rattle.std.proofs.Common.{◌≡◌, length, map}
use Rattle.minidump_index.proofs.WalkLemmas.{Filled}
use Rattle.minidump_index.proofs.fill.put_entries.Given as goal

abbrev pub invariant-loop-k : goal.invariant-loop-k
invariant-loop-k g l = record {
  whole : length l.tree.items ≡ length l.entries;
  filled : Filled (map g.S.Stored.value l.tree.items) (map g.S.Stored.value l.entries) l.total l.k l.rank;
}
