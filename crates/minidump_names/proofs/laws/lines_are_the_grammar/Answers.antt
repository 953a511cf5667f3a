-- A line lists what its grammar says.
use Rattle.minidump_names.proofs.GrammarLemmas as grammar
use Rattle.minidump_names.proofs.laws.lines_are_the_grammar.Goals as goal

pub returns : goal.returns
returns c = grammar.lines_are_the_grammar
