-- Either two forms are asked for, or options that are refused.
use Rattle.std.proofs.Common.{rules}
use Rattle.whocrashed_inputs.proofs.OptionLemmas.{options_refused, two_refused}
use Rattle.whocrashed_inputs.proofs.options.Options.read.Goals as goal

pub returns-in_default-clause-why : goal.returns-in_default-clause-why
returns-in_default-clause-why c =
    two_refused _ _ _ c.in_ok-command.ensures.fails c.in_ok-command.ensures.found (rw c.in_default.is at c.in_ok-options.ensures) c.in_ok-error.ensures.kind

pub returns-in-Some-refusal-clause-why : goal.returns-in-Some-refusal-clause-why
returns-in-Some-refusal-clause-why c =
    options_refused _ _ _ c.in_ok-command.ensures.fails c.in_ok-command.ensures.found c.in-Some.options (rw c.in-Some.is at c.in_ok-options.ensures) (search rules)
