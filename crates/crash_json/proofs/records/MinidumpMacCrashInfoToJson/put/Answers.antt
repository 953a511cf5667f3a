-- The values of the records.
use Rattle.crash_json.specs.Records.{mac_crash_json}
use Rattle.crash_json.proofs.Tokens.{views}
use Rattle.crash_json.proofs.records.MinidumpMacCrashInfoToJson.put.Goals as goal

pub returns : goal.returns
unfolding mac_crash_json
returns c = simp views c.put_object.ensures
