-- There are as many records as values.
use Rattle.std.proofs.lemmas.List.{length-map}
use Rattle.minidump_format.proofs.Printing.{prints_exit, prints_then}
use Rattle.minidump_records.specs.MacCrashInfo.Record.{mac_record_of}
use Rattle.minidump_records.proofs.mac_crash_info.MinidumpMacCrashInfo.print.Goals as goal

pub returns-in_err-print_item : goal.returns-in_err-print_item
returns-in_err-print_item g c =
    rw (length-map c.args.self.now.raw.items mac_record_of, ← c.as_slice-records.ensures.value)
    (prints_exit _ _ _ _ _ _ _ c.from_residual.ensures.1 c.in_err-print_item.ensures)

pub returns : goal.returns
returns g c =
    rw (length-map c.args.self.now.raw.items mac_record_of, ← c.as_slice-records.ensures.value)
    (prints_then _ _ _ _ _ _ _ c.in_ok-print_item.ensures c.print_records.ensures)
