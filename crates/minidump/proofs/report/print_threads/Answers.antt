-- The threads with the memory of the dump, or what their stream adds if it can't be read; or memory ran out before anything was printed.
use Rattle.minidump.specs.DumpValue.{dump_of}
use Rattle.minidump.proofs.ReportLemmas.{prints_nothing, prints_threads}
use Rattle.minidump.proofs.report.print_threads.Goals as goal

pub returns-in-Ok-get_memory : goal.returns-in-Ok-get_memory
returns-in-Ok-get_memory g c =
    prints_threads g.W.Write.contents c.args.f.now (dump_of c.args.dump.now) _ _ _ _ _ c.print.new.f c.print.result (rw c.in-Ok.is at c.requires.threads)
    (c.in-Ok-get_memory.ensures (dump_of c.args.dump.now) c.requires) c.system_info.ensures c.print.ensures

pub returns-in-Err-get_memory : goal.returns-in-Err-get_memory
returns-in-Err-get_memory g c = rw c.no_memory.ensures (prints_nothing g.W.Write.contents c.args.f.now _)
