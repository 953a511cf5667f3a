-- The values of the streams.
use Rattle.crash_json.specs.Report.{stream_members}
use Rattle.crash_json.proofs.Tokens.{or_null_of_found, or_null_of_views}
use Rattle.crash_json.proofs.report.add_streams.Goals as goal

pub returns : goal.returns
unfolding stream_members
returns c = simp (or_null_of_views, or_null_of_found) c.add.ensures
