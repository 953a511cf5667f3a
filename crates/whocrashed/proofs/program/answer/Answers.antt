-- Memory ran out before anything was written.
use Rattle.whocrashed.proofs.OutputLemmas.{fails_first}
use Rattle.whocrashed.proofs.program.answer.Goals as goal

pub returns-in_err-format-clause-nothing : goal.returns-in_err-format-clause-nothing
returns-in_err-format-clause-nothing g c = fails_first g.O.Write.contents _ c.from_residual.result
