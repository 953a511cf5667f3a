-- The command was told of the options of the table, and of DUMP.
use Rattle.std.proofs.lemmas.Result.{IfOk-weaker}
use Rattle.whocrashed_inputs.proofs.OptionLemmas.{told_all}
use Rattle.whocrashed_inputs.proofs.options.command.Goals as goal

pub returns : goal.returns
returns c = IfOk-weaker c.arg.result _ _ (λ command added. told_all _ command c.dumps_of.result _ c.bare_command.ensures c.in_ok-with_options.ensures c.dumps_of.ensures.rule c.dumps_of.ensures.local added) c.arg.ensures
