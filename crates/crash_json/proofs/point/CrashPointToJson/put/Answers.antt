-- The registers that are kept, and the values of the lists.
use Rattle.crash_json.specs.Point.{point_json}
use Rattle.crash_json.proofs.Tokens.{views}
use Rattle.crash_json.proofs.point.CrashPointToJson.put.Goals as goal

pub returns : goal.returns
unfolding point_json
returns c =
    let members = rw (c.in_ok-placed.ensures, c.as_slice.ensures.value) at c.put_object.ensures in
    simp views (simp views at members)
