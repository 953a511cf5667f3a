-- The records so far, those that are left, and the reads so far.
use Rattle.std.proofs.Common.{◌≡◌, ◌+◌, ◌*◌, ◌≤◌, drop, length, map}
use Rattle.std.specs.List.{sum_by}
use Rattle.minidump_bytes.specs.Source.{bytes_of}
use Rattle.minidump_bytes.specs.Steps.{after}
use Rattle.minidump_records.specs.MacCrashInfo.Record.{mac_record_of, record_reads}
use Rattle.minidump_records.specs.MacCrashInfo.{located_records}
use Rattle.minidump_records.proofs.MacLemmas.{after_these, left}
use Rattle.minidump_records.proofs.mac_crash_info.read_records.Given as goal

abbrev pub invariant-loop-location : goal.invariant-loop-location
invariant-loop-location l = record {
  whole : located_records l.endian (bytes_of l.all) l.start l.locations
      ≡ after_these (map mac_record_of l.records.items) (left l.endian (bytes_of l.all) l.start l.before (drop l.location-index l.locations));
  few : length l.records.items ≤ l.location-index;
  within : l.steps ≤ l.fn.steps + 8 * l.location-index;
  grows : l.fn.steps ≤ l.steps;
  least : after l.fn.steps (2 * l.location-index + sum_by record_reads (map mac_record_of l.records.items)) ≤ l.steps;
}
