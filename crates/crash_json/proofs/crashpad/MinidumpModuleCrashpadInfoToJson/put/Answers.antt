-- The values of the list.
use Rattle.crash_json.specs.Crashpad.{crashpad_module_json}
use Rattle.crash_json.proofs.Tokens.{views}
use Rattle.crash_json.proofs.crashpad.MinidumpModuleCrashpadInfoToJson.put.Goals as goal

pub returns : goal.returns
unfolding crashpad_module_json
returns c = simp views c.put_object.ensures
