-- The main module, and the values of the others.
use Rattle.crash_json.specs.Report.{system_members}
use Rattle.crash_json.proofs.Tokens.{views}
use Rattle.crash_json.proofs.report.add_system.Goals as goal

pub returns : goal.returns
unfolding system_members
returns c = simp views (rw (c.main_module.ensures, c.as_slice.ensures.value) at c.add.ensures)
