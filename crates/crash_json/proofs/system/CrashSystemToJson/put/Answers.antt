-- The model and the microcode of the processor.
use Rattle.crash_json.specs.System.{system_json}
use Rattle.crash_json.proofs.Tokens.{views}
use Rattle.crash_json.proofs.system.CrashSystemToJson.put.Goals as goal

pub returns : goal.returns
unfolding system_json
returns c = simp views c.put_object.ensures
