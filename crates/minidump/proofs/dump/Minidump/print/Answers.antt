-- The header or an entry was printed in part.
use Rattle.minidump_format.proofs.Printing.{prints_exit}
use Rattle.minidump.proofs.dump.Minidump.print.Goals as goal

pub returns-in_err-print_entries : goal.returns-in_err-print_entries
returns-in_err-print_entries g c = prints_exit _ _ _ _ _ _ _ c.from_residual.ensures.1 c.in_err-print_entries.ensures
