-- Memory ran out before anything was printed, or nothing is.
use Rattle.std.proofs.Common.{◌≡◌, ◌∙◌, true, false, refl, sym}
use Rattle.whocrashed.proofs.OutputLemmas.{gains_nothing, out_of_memory}
use Rattle.whocrashed.proofs.PrintedLemmas.{failure}
use Rattle.whocrashed.proofs.report.Reporter.report_failure.Goals as goal
use Rattle.whocrashed.proofs.report.Reporter.report_failure.Goals.{in-Json, in_default}

pub returns-in_err-words : goal.returns-in_err-words
returns-in_err-words g c = out_of_memory g.O.Write.contents _ _ _ _ refl c.from_residual.ensures.1

pub returns-in_ok-complain : goal.returns-in_ok-complain
returns-in_ok-complain g c = elim c.match-matches.branch [
  | in-Json w ↦ absurd (let clash : true ≡ false = sym w.matches-is ∙ c.if-matches.false in cc)
  | in_default w ↦ gains_nothing g.O.Write.contents _ _
      (refl, failure (g.E.Display.output c.args.why.now) c.args.self.now.options.now.form c.args.path.now w.in_default.not-Json)
]
