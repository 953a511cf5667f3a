-- Memory ran out before anything was printed.
use Rattle.std.proofs.Common.{inl, refl}
use Rattle.whocrashed.proofs.OutputLemmas.{out_of_memory}
use Rattle.whocrashed.proofs.report.Reporter.report_file.Goals as goal

pub returns-in_err-words-in-Ok-None-clause-reported : goal.returns-in_err-words-in-Ok-None-clause-reported
returns-in_err-words-in-Ok-None-clause-reported g c = out_of_memory g.O.Write.contents _ _ _ _ (inl refl) c.from_residual.ensures.1
