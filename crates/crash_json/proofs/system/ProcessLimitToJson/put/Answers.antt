-- What the limit counts.
use Rattle.crash_json.specs.System.{limit_json}
use Rattle.crash_json.proofs.Tokens.{views}
use Rattle.crash_json.proofs.system.ProcessLimitToJson.put.Goals as goal

pub returns : goal.returns
unfolding limit_json
returns c = simp views c.put_object.ensures
