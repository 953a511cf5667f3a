-- As many threads are read as there are entries.
use Rattle.std.proofs.Common.{arith}
use Rattle.minidump.proofs.ThreadLemmas.{as_many_threads}
use Rattle.minidump.proofs.thread_list.MinidumpThreadListMinidumpStream.read.Goals as goal

pub returns-clause-at_least : goal.returns-clause-at_least
returns-clause-at_least c =
    omega (arith, as_many_threads _ _ _ _ c.in_ok-read_items.ensures.means, c.in_ok-read_items.ensures.at_least, c.in_ok-entries.ensures.step)
