-- A stream that can't be read adds the line of its error.
use Rattle.minidump.specs.Dump.{stream_of}
use Rattle.minidump.specs.DumpValue.{dump_of}
use Rattle.minidump.specs.Report.{section_text}
use Rattle.minidump.proofs.ReportLemmas.{assigned_as}
use Rattle.minidump.proofs.section.print_unread.Goals as goal

pub returns : goal.returns
returns g c =
    let d = dump_of c.args.dump.now in
    c.print_error.ensures (section_text d c.args.section) (rw c.number_of_type.ensures (λ other.
    c.requires.text c.args.error (assigned_as _ c.args.error (stream_of g.S.MinidumpStream.spec d) other c.requires.stream)))
