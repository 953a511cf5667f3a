-- The test goes field by field.
use Rattle.minidump_stability.proofs.ExactLemmas.{report_eq-Decides}
use Rattle.minidump_stability.proofs.laws.reports_compare_by_what_they_hold.Goals as goal

pub returns : goal.returns
returns c = report_eq-Decides
