-- The writer took all but the sections that are left and the crash.
use Rattle.std.proofs.Common.{drop, ◌++◌}
use Rattle.std.specs.List.{flat_map}
use Rattle.minidump_format.proofs.Printing.{PutsAllBut}
use Rattle.minidump.specs.Crash.{crash_text}
use Rattle.minidump.specs.Report.{section_text, sections, sections_text}
use Rattle.minidump.specs.DumpValue.{dump_of}
use Rattle.minidump.proofs.report.print_streams.Given as goal

abbrev pub invariant-loop-section : goal.invariant-loop-section
invariant-loop-section g l =
    PutsAllBut g.W.Write.contents l.fn.f l.f (sections_text (dump_of l.dump) ++ crash_text l.names (dump_of l.dump))
    (flat_map (section_text (dump_of l.dump)) (drop l.section-index sections) ++ crash_text l.names (dump_of l.dump))
