-- One text after another.
use Rattle.std.proofs.Common.{codes}
use Rattle.minidump_format.proofs.Printing.{prints_exit, prints_then}
use Rattle.minidump_records.proofs.boot_args.MinidumpMacBootargs.print.Goals as goal

pub returns-in_err-put_text-clause-prints : goal.returns-in_err-put_text-clause-prints
returns-in_err-put_text-clause-prints g c =
    prints_exit _ _ _ (codes "mac_boot_args = ") _ _ _ c.from_residual.ensures.1 c.in_err-put_text.ensures.prints

pub returns-in_err-put_text-2-clause-prints : goal.returns-in_err-put_text-2-clause-prints
returns-in_err-put_text-2-clause-prints g c = prints_then _ _ _ _ (codes "mac_boot_args = ") _ _ c.in_ok-put_text.ensures.prints
    (prints_exit _ _ _ _ _ _ _ c.from_residual-in_err-put_text-2.ensures.1 (rw c.arguments.ensures at c.in_err-put_text-2.ensures.prints))

pub returns-clause-prints : goal.returns-clause-prints
returns-clause-prints g c = prints_then _ _ _ _ (codes "mac_boot_args = ") _ _ c.in_ok-put_text.ensures.prints
    (prints_then _ _ _ _ _ _ _ (rw c.arguments.ensures at c.in_ok-put_text-2.ensures.prints) c.put_text-3.ensures.prints)
