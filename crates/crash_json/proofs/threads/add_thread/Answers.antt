-- How many frames there are, how much of the context, and why there are no more.
use Rattle.crash_json.specs.Threads.{thread_members}
use Rattle.crash_json.proofs.Tokens.{views}
use Rattle.crash_json.proofs.threads.add_thread.Goals as goal

pub returns : goal.returns
unfolding thread_members
returns c =
    let members =
    rw (c.frame_count.ensures, c.candidate_count.ensures, c.unaccepted_size.ensures, c.short_context.ensures, c.end_of.ensures) at c.add.ensures in
    simp views (simp views at members)
