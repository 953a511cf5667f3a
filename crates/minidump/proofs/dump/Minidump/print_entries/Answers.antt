-- The header, and then the texts of the entries.
use Rattle.minidump_format.proofs.Printing.{prints_exit, prints_then}
use Rattle.minidump.specs.Text.{entry_text}
use Rattle.minidump.proofs.PrintLemmas.{prints_slice}
use Rattle.minidump.proofs.dump.Minidump.print_entries.Goals as goal

pub returns-in_err-print_item : goal.returns-in_err-print_item
returns-in_err-print_item g c = prints_exit _ _ _ _ _ _ _ c.from_residual.ensures.1 c.in_err-print_item.ensures

pub returns : goal.returns
returns g c =
    prints_then _ _ _ _ _ _ _ c.in_ok-print_item.ensures
    (prints_slice _ _ _ _ entry_text _ _ (cc) c.print_all.ensures.prints)
