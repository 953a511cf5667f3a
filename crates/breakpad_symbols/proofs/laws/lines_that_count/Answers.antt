-- Lines and words count as the relations say.
use Rattle.breakpad_symbols.proofs.ChoiceLemmas as choice
use Rattle.breakpad_symbols.proofs.InlineLemmas.{first_depth}
use Rattle.breakpad_symbols.proofs.laws.lines_that_count.Goals as goal

pub returns-clause-before_end : goal.returns-clause-before_end
returns-clause-before_end c = choice.before_end

pub returns-clause-line : goal.returns-clause-line
returns-clause-line c = choice.lines_in

pub returns-clause-call : goal.returns-clause-call
returns-clause-call c = choice.calls_in

pub returns-clause-depth : goal.returns-clause-depth
returns-clause-depth c = λ f address depth. first_depth address depth f.records

pub returns-clause-rule : goal.returns-clause-rule
returns-clause-rule c = choice.rules_at
