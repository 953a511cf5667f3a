-- The heading, the states and the system's memory.
use Rattle.std.proofs.Common.{codes}
use Rattle.minidump_format.proofs.Printing.{prints_exit, prints_then}
use Rattle.minidump_stability.specs.ReportText.{process_states_text}
use Rattle.minidump_stability.proofs.report.StabilityReport.print.Goals as goal

pub returns-in_err-put_text : goal.returns-in_err-put_text
returns-in_err-put_text g c = prints_exit _ _ _ (codes "StabilityReport\n") _ _ _ c.from_residual.ensures.1 c.in_err-put_text.ensures.prints

pub returns-in_err-print_process_states : goal.returns-in_err-print_process_states
returns-in_err-print_process_states g c = prints_then _ _ _ _ (codes "StabilityReport\n") _ _ c.in_ok-put_text.ensures.prints
    (prints_exit _ _ _ (process_states_text c.args.self.now.process_states.items) _ _ _ c.from_residual-in_err-print_process_states.ensures.1
    (rw c.as_slice.ensures.value at c.in_err-print_process_states.ensures))

pub returns : goal.returns
returns g c = prints_then _ _ _ _ (codes "StabilityReport\n") _ _ c.in_ok-put_text.ensures.prints
    (prints_then _ _ _ _ (process_states_text c.args.self.now.process_states.items) _ _
    (rw c.as_slice.ensures.value at c.in_ok-print_process_states.ensures) c.print_item.ensures)
