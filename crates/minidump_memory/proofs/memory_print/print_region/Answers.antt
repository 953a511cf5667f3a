-- The head, and then the rest.
use Rattle.minidump_format.proofs.Printing.{prints_exit, prints_then}
use Rattle.minidump_memory.proofs.memory_print.print_region.Goals as goal

pub returns-in_err-print_item : goal.returns-in_err-print_item
returns-in_err-print_item g c = prints_exit _ _ _ _ _ _ _ c.from_residual.ensures.1 c.in_err-print_item.ensures

pub returns-then-brief : goal.returns-then-brief
returns-then-brief g c = rw c.if-brief.true (prints_then _ _ _ _ _ _ _ c.in_ok-print_item.ensures c.print_line_end.ensures.prints)

pub returns : goal.returns
returns g c = rw c.if-brief.false (prints_then _ _ _ _ _ _ _ c.in_ok-print_item.ensures c.print_memory_lines.ensures)
