-- Memory ran out before anything was printed.
use Rattle.minidump.proofs.ReportLemmas.{prints_nothing}
use Rattle.minidump.proofs.crash.print_crash.Goals as goal

pub returns-in-Err : goal.returns-in-Err
returns-in-Err g c = rw c.no_memory.ensures (prints_nothing g.W.Write.contents c.args.f.now _)
