-- There is one walk from a frame, since callers lie ever higher.
use Rattle.stack_walk.proofs.CallerLemmas.{frames_by}
use Rattle.stack_walk.proofs.laws.one_list_of_frames.Goals as goal

pub returns : goal.returns
returns c = frames_by
