-- The report that is read field by field is the one that the stream holds.
use Rattle.minidump_bytes.specs.Source.{bytes_of}
use Rattle.minidump_stability.proofs.ReportLemmas.{report_is}
use Rattle.minidump_stability.proofs.report.StabilityReportMinidumpStream.read.Goals as goal

pub returns-clause-means : goal.returns-clause-means
returns-clause-means c = rw (← report_is (bytes_of c.args.bytes)) (rw (c.bytes.ensures, c.new.ensures) at c.merge.ensures.means)
