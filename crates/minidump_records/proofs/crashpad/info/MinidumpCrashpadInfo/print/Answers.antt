-- Where the record fails, the whole does.
use Rattle.minidump_format.proofs.Printing.{prints_exit}
use Rattle.minidump_records.specs.Crashpad.Text.{process_text}
use Rattle.minidump_records.proofs.crashpad.info.MinidumpCrashpadInfo.print.Goals as goal

pub returns-in_err-print_item : goal.returns-in_err-print_item
returns-in_err-print_item g c =
    prints_exit g.W.Write.contents _ _ (process_text c.args.self.now.raw) _ _ _ c.from_residual.ensures.1 c.in_err-print_item.ensures
