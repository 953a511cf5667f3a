-- The system information that the dump has is its stream, or has its error.
use Rattle.minidump.specs.DumpValue.{dump_of}
use Rattle.minidump.specs.Report.{section_text}
use Rattle.minidump.specs.declared.report.Section.TheVariants.{SystemInfoStream}
use Rattle.minidump.proofs.ReportLemmas.{prints_system, system_unread}
use Rattle.minidump.proofs.report.print_system_info.Goals as goal

pub returns-in-Ok : goal.returns-in-Ok
returns-in-Ok g c =
    prints_system g.W.Write.contents c.args.f.now (dump_of c.args.dump.now) _ _ c.print.new.f c.print.result
    c.args.dump.now.knows c.in-Ok.is c.print.ensures

pub returns-in-Err : goal.returns-in-Err
returns-in-Err g c =
    c.print_error.ensures (section_text (dump_of c.args.dump.now) SystemInfoStream)
    (λ _. system_unread (dump_of c.args.dump.now) _ _ c.args.dump.now.knows c.in-Err.is)
