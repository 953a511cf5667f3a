-- When the dump was written, and the values of the others.
use Rattle.crash_json.specs.Minidump.{process_members}
use Rattle.crash_json.proofs.Tokens.{views}
use Rattle.crash_json.proofs.dump.add_process.Goals as goal

pub returns : goal.returns
unfolding process_members
returns c = simp views (rw c.unless_zero.ensures at c.add.ensures)
