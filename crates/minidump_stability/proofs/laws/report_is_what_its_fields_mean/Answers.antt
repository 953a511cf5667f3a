-- By the lemma on all bytes.
use Rattle.minidump_stability.proofs.FieldLemmas.{stream_holds_report}
use Rattle.minidump_stability.proofs.laws.report_is_what_its_fields_mean.Goals as goal

pub returns : goal.returns
returns c = stream_holds_report
