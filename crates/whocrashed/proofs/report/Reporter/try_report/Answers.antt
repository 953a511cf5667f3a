-- A path that isn't UTF-8 is told with U+FFFD for what isn't.
use Rattle.std.proofs.Common.{◌≡◌, ◌∙◌, inl}
use Rattle.std.specs.Str.Lossy.{utf8_lossy}
use Rattle.whocrashed.proofs.OutputLemmas.{gains_by_as}
use Rattle.whocrashed.proofs.report.Reporter.try_report.Goals as goal

pub returns-in_ok-path-in-Malformed-clause-reported : goal.returns-in_ok-path-in-Malformed-clause-reported
returns-in_ok-path-in-Malformed-clause-reported g c =
    let shown : c.as_str.result.now ≡ utf8_lossy c.in-Malformed.path.now = c.as_str.ensures.value ∙ c.in_ok-path-in-Malformed.ensures.lossy in
    rw c.in-Malformed.is (
    gains_by_as g.O.Write.contents _ _ _ _ _ _ c.report_failure.result c.report_failure.ensures
    (λ status text h. (h.0, rw (shown, h.1.1) at h.1.2)) (λ text nothing. inl nothing)
    )
