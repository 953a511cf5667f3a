-- The walk of the tree is what is kept of the ranges.
use Rattle.std.proofs.Common.{map}
use Rattle.std.proofs.lemmas.Option.{MatchOption-at_some}
use Rattle.minidump_index.proofs.fill.tree_in.Goals as goal

pub returns-clause-tree : goal.returns-clause-tree
returns-clause-tree g c =
    let holds = MatchOption-at_some _ _ c.in-Some.kept c.in-Some.is c.in_ok-kept.ensures in
    rw (c.put_entries.ensures, c.deref.ensures.value) (c.keep_apart.ensures (map g.R.Region.range c.args.regions.now) holds)
