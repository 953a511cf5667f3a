-- The line, the bytes and the empty line go out one after another.
use Rattle.std.proofs.Common.{codes}
use Rattle.minidump_format.proofs.Printing.{prints_exit, prints_then}
use Rattle.minidump_memory.proofs.memory_print.print_memory_lines.Goals as goal

pub returns-in_err-put_text : goal.returns-in_err-put_text
returns-in_err-put_text g c = prints_exit _ _ _ (codes "Memory\n") _ _ _ c.from_residual.ensures.1 c.in_err-put_text.ensures.prints

pub returns-in_err-print_bytes : goal.returns-in_err-print_bytes
returns-in_err-print_bytes g c =
    prints_then _ _ _ _ (codes "Memory\n") _ _ c.in_ok-put_text.ensures.prints
    (prints_exit _ _ _ _ _ _ _ c.from_residual-in_err-print_bytes.ensures.1 c.in_err-print_bytes.ensures)

pub returns : goal.returns
returns g c =
    prints_then _ _ _ _ (codes "Memory\n") _ _ c.in_ok-put_text.ensures.prints
    (prints_then _ _ _ _ _ _ _ c.in_ok-print_bytes.ensures c.print_line_end.ensures.prints)
