-- The name of the stream's type, and its error.
use Rattle.crash_json.specs.Minidump.{stream_json}
use Rattle.crash_json.proofs.Tokens.{views}
use Rattle.crash_json.proofs.dump.StreamEntryToJson.put.Goals as goal

pub returns : goal.returns
unfolding stream_json
returns c = simp views (rw c.from_u32.ensures at c.put_object.ensures)
