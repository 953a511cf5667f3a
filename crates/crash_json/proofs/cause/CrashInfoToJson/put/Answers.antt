-- The reason, the address, and the expression of the assertion.
use Rattle.crash_json.specs.Cause.{crash_info_json}
use Rattle.crash_json.proofs.Tokens.{views}
use Rattle.crash_json.proofs.cause.CrashInfoToJson.put.Goals as goal

pub returns : goal.returns
unfolding crash_info_json
returns c = rw (← c.reason.ensures, ← c.address_of.ensures, ← c.in_ok-assertion.ensures) (simp views c.put_object.ensures)
