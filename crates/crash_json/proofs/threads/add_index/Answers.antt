-- The index of the thread that crashed.
use Rattle.crash_json.proofs.threads.add_index.Goals as goal

pub returns-then-is_crashing : goal.returns-then-is_crashing
returns-then-is_crashing c = rw c.if-is_crashing.true c.add.ensures
