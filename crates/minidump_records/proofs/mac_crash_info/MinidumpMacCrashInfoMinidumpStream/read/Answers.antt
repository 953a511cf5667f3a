-- The records that are read, and those of version 0, are those of all locations.
use Rattle.std.proofs.Common.{◌≡◌, ◌+◌, ◌-◌, ◌∙◌, Some, arith, length-take, refl, sym, take}
use Rattle.std.proofs.lemmas.List.{length-map}
use Rattle.std.specs.Prelude.{count_by}
use Rattle.minidump_bytes.specs.Source.{bytes_of}
use Rattle.minidump_bytes.specs.Span.{record_at}
use Rattle.minidump_format.specs.Mac.{mac_crash_info}
use Rattle.minidump_records.specs.MacCrashInfo.Record.{mac_record_of}
use Rattle.minidump_records.specs.MacCrashInfo.{states_version_0}
use Rattle.minidump_records.proofs.MacLemmas.{all_counted}
use Rattle.minidump_records.proofs.mac_crash_info.MinidumpMacCrashInfoMinidumpStream.read.Goals as goal

pub returns-clause-means : goal.returns-clause-means
returns-clause-means c =
    let order = c.args.endian in
    let file = bytes_of c.args.all in
    let info = c.in_ok-info.info in
    let raw = c.in_ok-raw.raw in
    let locations = take c.min.result info.records in
    let means = c.in_ok-raw.ensures.means in
    let found : record_at mac_crash_info order 0 (bytes_of c.args.bytes) ≡ Some info =
    sym c.record.ensures.value ∙ c.in_ok-info.ensures.ok_part
    in
    let all = all_counted order file info.record_start_size locations _ means in
    let unreadable : count_by (states_version_0 order file) locations + (info.record_count - 20)
    ≡ info.record_count - c.len.result =
    omega (
      arith,
      all,
      length-map raw.items mac_record_of,
      length-take c.min.result info.records,
      raw.ok.0,
    )
    in
    rw (found, ← c.min.ensures, means, unreadable) refl
