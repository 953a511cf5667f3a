-- The members that the damage says.
use Rattle.crash_json.specs.Minidump.{damage_object}
use Rattle.crash_json.proofs.Tokens.{views}
use Rattle.crash_json.proofs.dump.DamageToJson.put.Goals as goal

pub returns : goal.returns
unfolding damage_object
returns c = rw (← c.parts_of-number.ensures) (simp views c.put_object.ensures)
