-- The copies are the same records as those so far.
use Rattle.std.proofs.Common.{◌≡◌, map, take}
use Rattle.minidump_records.specs.MacCrashInfo.Record.{mac_record_of}
use Rattle.minidump_records.proofs.mac_crash_info.MinidumpMacCrashInfo.try_clone.Given as goal

abbrev pub invariant-loop-record : goal.invariant-loop-record
invariant-loop-record l = map mac_record_of l.raw.items ≡ map mac_record_of (take l.record-index l.self.raw.items)
