-- Each range fits the wide entries, and the walk of the tree ascends.
use Rattle.std.proofs.Common.{arith, refl, map}
use Rattle.std.proofs.lemmas.List.{length-map}
use Rattle.std.proofs.lemmas.Option.{MatchOption-at_none, MatchOption-at_some}
use Rattle.minidump_index.proofs.RangedEntries.{in_list}
use Rattle.minidump_index.proofs.TreeLemmas.{tree_of}
use Rattle.minidump_index.proofs.fill.tree_of.Goals as goal

pub returns-in-Some-clause-tree : goal.returns-in-Some-clause-tree
returns-in-Some-clause-tree g c = tree_of _ _ refl (MatchOption-at_some _ _ c.in-Some.tree c.in-Some.is c.in_ok-tree.ensures.tree).ascending

pub unreachable-requires : goal.unreachable-requires
unreachable-requires g c =
    let ranges = map g.R.Region.range c.args.regions.now in
    let (e, has, unfit) = MatchOption-at_none _ _ c.in-None.is c.in_ok-tree-2.ensures.tree in
    let within = in_list ranges e.index e.range has in
    unfit (omega (arith, within, length-map c.args.regions.now g.R.Region.range, c.in_ok-tree-2.ensures.few))

pub returns-clause-tree : goal.returns-clause-tree
returns-clause-tree g c = tree_of _ _ refl (MatchOption-at_some _ _ c.in-Some-2.tree c.in-Some-2.is c.in_ok-tree-2.ensures.tree).ascending
