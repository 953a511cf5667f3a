-- One section more, or an error after those before; and last the crash.
use Rattle.std.proofs.Common.{drop-cons, sym}
use Rattle.std.proofs.lemmas.List.{drop_all}
use native.Mathlib.Numerals.{unary_clauses}
use Rattle.minidump_format.proofs.Printing.{but_all, but_last}
use Rattle.minidump.specs.Report.{sections, sections_text}
use Rattle.minidump.specs.declared.report.Section.TheVariants.{SystemInfoStream}
use Rattle.minidump.proofs.ReportLemmas.{section_failed, section_next}
use Rattle.minidump.proofs.report.print_streams.Goals as goal

pub loop-section-init : goal.loop-section-init
unfolding sections_text
loop-section-init g c = but_all g.W.Write.contents c.args.f.now _ (sym c.if-failed.ensures)

pub returns-in_err-print_section : goal.returns-in_err-print_section
returns-in_err-print_section g c =
    section_failed g.W.Write.contents _ _ _ _ _ _ _ _ _ (rw (drop-cons sections _ SystemInfoStream c.loop-section-test.true) at c.loop-section.invariant)
    c.from_residual.ensures.1 c.in_err-print_section.ensures

pub loop-section-preserved : goal.loop-section-preserved
loop-section-preserved g c =
    simp unary_clauses (section_next g.W.Write.contents _ _ _ _ _ _ _
    (rw (drop-cons sections _ SystemInfoStream c.loop-section-test.true) at c.loop-section.invariant) c.in_ok-print_section.ensures)

pub returns : goal.returns
returns g c =
    but_last g.W.Write.contents _ _ _ _ _ _ (rw (drop_all c.loop-section.section-index sections c.loop-section-test.false) at c.loop-section.invariant)
    c.print_crash.ensures
