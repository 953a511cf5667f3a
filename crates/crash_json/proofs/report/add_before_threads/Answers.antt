-- The values of the modules, and how many threads there are.
use Rattle.crash_json.specs.Report.{before_threads}
use Rattle.crash_json.proofs.Tokens.{views}
use Rattle.crash_json.proofs.report.add_before_threads.Goals as goal

pub returns : goal.returns
unfolding before_threads
returns c = simp views c.add.ensures
