-- The crash information of macOS: Mozilla's MDRawMacCrashInfo.
pub mod Record
pub mod Text
use Rattle.std.specs.Prelude.{ℕ, ◌+◌, ◌-◌, ◌==◌, Bool, List, ◌∷◌, count_by, map, nat_eq, min, take, Option, Some, None, Result, Ok, Err, slice_range}
use Rattle.std.specs.Prelude.{if◌then◌else◌, IsSomeAnd, ◌<◌, ◌*◌}
use Rattle.std.specs.List.{filter_map, sum_by, zip}
use Rattle.std.specs.Option.{ok_or, option_and_then, option_eq, option_map}
use Rattle.minidump_bytes.specs.declared.endian.Endian.{Endian}
use Rattle.minidump_bytes.specs.Number.{number_at}
use Rattle.minidump_bytes.specs.Span.{record_at}
use Rattle.minidump_format.specs.declared.format.stream_type.MINIDUMP_STREAM_TYPE.TheVariants.{MozMacosCrashInfoStream}
use Rattle.minidump_format.specs.Header.{located}
use Rattle.minidump_format.specs.declared.error.Error.{Error}
use Rattle.minidump_format.specs.declared.error.Error.TheVariants.{StreamReadFailure, VersionMismatch}
use Rattle.minidump_format.specs.declared.format.header.MINIDUMP_LOCATION_DESCRIPTOR.{MINIDUMP_LOCATION_DESCRIPTOR}
use Rattle.minidump_format.specs.Mac.{mac_crash_info, mac_record}
use Rattle.minidump_format.specs.StreamType.{number_of}
use Rattle.minidump_system.specs.StreamSpec.{StreamSpec}
use Rattle.minidump_system.specs.Reads.{all_ok, and_then}
use Rattle.minidump_records.specs.MacCrashInfo.Record.{MacRecord, by_version, mac_record_of, record_reads}
use Rattle.minidump_records.specs.declared.mac_crash_info.MinidumpMacCrashInfo.{MinidumpMacCrashInfo}
use Rattle.minidump_records.specs.declared.mac_crash_info.raw.RawMacCrashInfo.{RawMacCrashInfo}

-- the records, and how many more are counted
pub record MacRecords : Type 0 where
  pub records : List MacRecord
  pub unreadable : ℕ

-- those of a value
abbrev pub mac_crash_info_of : MinidumpMacCrashInfo → MacRecords
mac_crash_info_of s = record {
  records = map mac_record_of s.raw.items;
  unreadable = s.unreadable;
}

-- the record of a value, if there is one
abbrev pub record_if : Option RawMacCrashInfo → Option MacRecord
record_if None = None
record_if (Some r) = Some (mac_record_of r)

-- the version that the bytes of a record state
abbrev pub stated_version : Endian → List ℕ → Option ℕ
stated_version order bytes = option_map (λ head. head.version) (record_at mac_record order 0 bytes)

-- the version of a record, or `VersionMismatch` if the record before it has another one. A record
-- of version 0 counts, too
abbrev pub same_version : Option ℕ → ℕ → Result ℕ Error
same_version None version = Ok version
same_version (Some before) version = if version == before then Ok version else Err VersionMismatch

-- the record of these bytes, by the offset where its texts begin and the version of the record
-- before it; none for version 0, of which only the first 16 bytes are read
abbrev pub record_after_version : Endian → ℕ → Option ℕ → List ℕ → Result (Option MacRecord) Error
record_after_version order start before bytes =
    and_then (ok_or (record_at mac_record order 0 bytes) StreamReadFailure) (λ head.
    and_then (same_version before head.version) (λ version. by_version order start head bytes))

-- the version of the record at a location
unfoldable pub located_version : Endian → List ℕ → MINIDUMP_LOCATION_DESCRIPTOR → Option ℕ
located_version order file l = option_and_then (stated_version order) (located file l)

-- the record at a location
unfoldable pub located_record : Endian → List ℕ → ℕ → Option ℕ → MINIDUMP_LOCATION_DESCRIPTOR
    → Result (Option MacRecord) Error
located_record order file start before l =
    and_then (ok_or (located file l) StreamReadFailure) (record_after_version order start before)

-- each location with the one before it, if there is one
abbrev pub with_neighbours : List MINIDUMP_LOCATION_DESCRIPTOR
    → List (Option MINIDUMP_LOCATION_DESCRIPTOR × MINIDUMP_LOCATION_DESCRIPTOR)
with_neighbours ls = zip (None ∷ map Some ls) ls

-- the record at a location, whose version has to be that of the record before it
abbrev pub neighbouring_record : Endian → List ℕ → ℕ
    → Option MINIDUMP_LOCATION_DESCRIPTOR × MINIDUMP_LOCATION_DESCRIPTOR
    → Result (Option MacRecord) Error
neighbouring_record order file start p =
    located_record order file start (option_and_then (located_version order file) p.0) p.1

-- the records at locations, but for those of version 0
unfoldable pub located_records : Endian → List ℕ → ℕ → List MINIDUMP_LOCATION_DESCRIPTOR
    → Result (List MacRecord) Error
located_records order file start ls =
    and_then (all_ok (neighbouring_record order file start) (with_neighbours ls))
    (λ rs. Ok (filter_map (λ r. r) rs))

-- the record at a location states version 0, of which no record is read
abbrev pub states_version_0 : Endian → List ℕ → MINIDUMP_LOCATION_DESCRIPTOR → Bool
states_version_0 order file l = option_eq nat_eq (located_version order file l) (Some 0)

-- Mozilla's MDRawMacCrashInfo: a count of records, of which the first 20 are read, and their
-- locations. Those of version 0, and those beyond the 20, are unreadable. The numbers in it and in
-- its records that name a type of stream are not tested
abbrev pub mac_crash_info_in : Endian → List ℕ → List ℕ → Result MacRecords Error
mac_crash_info_in order file bytes =
    and_then (ok_or (record_at mac_crash_info order 0 bytes) StreamReadFailure) (λ info.
    let locations = take (min info.record_count 20) info.records in
    and_then (located_records order file info.record_start_size locations) (λ records.
    Ok (record {
      records = records;
      unreadable = count_by (states_version_0 order file) locations + (info.record_count - 20);
    })))

-- how many locations are read
abbrev pub count_of_records : Endian → List ℕ → ℕ
count_of_records order bytes = min (number_at order 4 4 (slice_range bytes 0 172)) 20

-- the stream of type MozMacosCrashInfoStream. Its reads are the record of the stream, the bytes and
-- the head of the record at each of these locations, and those by the records' versions. It takes
-- memory where it counts a record
abbrev pub mac_crash_info_stream : StreamSpec MinidumpMacCrashInfo MacRecords
mac_crash_info_stream = record {
  stream_type = number_of MozMacosCrashInfoStream;
  value = mac_crash_info_of;
  meaning = λ order file bytes system. mac_crash_info_in order file bytes;
  most = λ n. n + 7;
  fewest =
      λ order bytes system info. 1 + 2 * count_of_records order bytes
      + sum_by record_reads info.records;
  memory =
      λ order file bytes system. IsSomeAnd (record_at mac_crash_info order 0 bytes)
      (λ info. 0 < info.record_count);
}
