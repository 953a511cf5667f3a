-- The identifiers, the debug file and the version.
use Rattle.crash_json.specs.Modules.{module_members}
use Rattle.crash_json.proofs.Tokens.{views}
use Rattle.crash_json.proofs.modules.CrashModuleMembers.add.Goals as goal

pub returns : goal.returns
unfolding module_members
returns c = simp views c.add.ensures
