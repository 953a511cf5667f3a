-- A value is that of a tree.
use Rattle.breakpad_symbols.proofs.TreeLemmas.{values_are}
use Rattle.breakpad_symbols.proofs.laws.expressions_are_trees.Goals as goal

pub returns : goal.returns
returns c = values_are
