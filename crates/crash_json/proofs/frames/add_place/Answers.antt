-- The file of the module, and the offset in it.
use Rattle.crash_json.specs.Frames.{frame_members}
use Rattle.crash_json.proofs.Tokens.{views}
use Rattle.crash_json.proofs.frames.add_place.Goals as goal

pub returns : goal.returns
unfolding frame_members
returns c = rw (← c.file_at.ensures) (simp views (simp views at (rw c.offset_of.ensures at c.add.ensures)))
