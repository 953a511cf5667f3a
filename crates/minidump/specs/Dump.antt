-- A minidump without its addresses in memory: which files are one, and what their streams are.
use Rattle.std.specs.Prelude.{◌≡◌, ◌⊎◌, ℕ, ◌+◌, ◌^◌, ◌<◌, List, Option, Some, None, Result, Ok, Err, IsOkAnd}
use Rattle.std.specs.Prelude.{if◌then◌else◌}
use Rattle.std.specs.Option.{option_map}
use Rattle.std.specs.Result.{result_ok}
use Rattle.minidump_bytes.specs.declared.endian.Endian.{Endian}
use Rattle.minidump_format.specs.declared.error.Error.{Error}
use Rattle.minidump_format.specs.declared.error.Error.TheVariants.{MissingDirectory, OutOfMemory}
use Rattle.minidump_format.specs.declared.error.Error.TheVariants.{StreamNotFound, StreamReadFailure}
use Rattle.minidump_format.specs.declared.format.header.MINIDUMP_DIRECTORY.{MINIDUMP_DIRECTORY}
use Rattle.minidump_format.specs.declared.format.header.MINIDUMP_HEADER.{MINIDUMP_HEADER}
use Rattle.minidump_format.specs.declared.format.stream_type.MINIDUMP_STREAM_TYPE.TheVariants.{SystemInfoStream}
use Rattle.minidump_format.specs.Header.{located}
use Rattle.minidump_format.specs.StreamType.{number_of}
use Rattle.minidump_format.specs.Answer.{Gives}
use Rattle.minidump_context.specs.Context.{map_ok}
use Rattle.minidump_system.specs.StreamSpec.{Meaning, StreamSpec}
use Rattle.minidump_system.specs.SystemInfo.{System, system_info_in, system_info_stream}
use Rattle.minidump.specs.declared.directory.DecidingEntry.{DecidingEntry}
use Rattle.minidump.specs.Header.{header_of}
use Rattle.minidump.specs.Directory.{directory, deciding_entry, deciding_entries_below, is_readable}

-- a minidump: the bytes of the file, their byte order, and Microsoft's MINIDUMP_HEADER
pub record Dump : Type 0 where
  pub file : List ℕ
  pub order : Endian
  pub header : MINIDUMP_HEADER

-- the minidump of a header, where each entry of the directory lies in the file
abbrev with_header : List ℕ → Result (Endian × MINIDUMP_HEADER) Error → Result Dump Error
with_header file (Err e) = Err e
with_header file (Ok h) =
    if is_readable file h.1 then Ok (record { file = file; order = h.0; header = h.1 })
    else Err MissingDirectory

-- the minidump that a file is, or the first error: that of its header, or of an entry outside the
-- file
abbrev pub dump_in : List ℕ → Result Dump Error
dump_in file = with_header file (header_of file)

-- a file is a minidump whose directory has entries, which take memory
abbrev pub HasEntries : List ℕ → Type 0
HasEntries file = IsOkAnd (dump_in file) (λ d. 0 < d.header.stream_count)

-- an error of a call on a file: the one that the format assigns to a file that is no minidump, or
-- `OutOfMemory` where memory may run out
abbrev pub IsDumpErrorOr : Type 0 → List ℕ → Error → Type 0
IsDumpErrorOr memory file e = (dump_in file ≡ Err e) ⊎ ((e ≡ OutOfMemory) × memory)

-- the same, where memory may run out only if the directory has entries
abbrev pub IsDumpError : List ℕ → Error → Type 0
IsDumpError file e = IsDumpErrorOr (HasEntries file) file e

-- all entries of the directory, in the order of the file
abbrev pub all_entries : Dump → List MINIDUMP_DIRECTORY
all_entries d = directory d.order d.file d.header

-- the entries that decide a type of stream, ascending by type
abbrev pub streams_of : Dump → List DecidingEntry
streams_of d = deciding_entries_below (2 ^ 32) (all_entries d)

-- the bytes of a span, where it is in the file
abbrev pub bytes_of_span : Option (List ℕ) → Result (List ℕ) Error
bytes_of_span None = Err StreamReadFailure
bytes_of_span (Some bytes) = Ok bytes

-- the bytes of the stream that an entry of the directory decides, or the error
abbrev pub bytes_of_entry : List ℕ → Option DecidingEntry → Result (List ℕ) Error
bytes_of_entry file None = Err StreamNotFound
bytes_of_entry file (Some d) = bytes_of_span (located file d.entry.location)

-- the bytes of the stream of a type: the span of its deciding entry
abbrev pub raw_stream : ℕ → Dump → Result (List ℕ) Error
raw_stream stream_type d = bytes_of_entry d.file (deciding_entry stream_type (all_entries d))

-- what the bytes of a stream mean, or their error
abbrev meaning_of_bytes : {V : Type 0} → Meaning V → Dump → Option System → Result (List ℕ) Error → Result V Error
meaning_of_bytes meaning d system (Ok bytes) = meaning d.order d.file bytes system
meaning_of_bytes meaning d system (Err e) = Err e

-- the stream of a type, with a system information handed in
abbrev pub stream_with : {V : Type 0} → Option System → ℕ → Meaning V → Dump → Result V Error
stream_with system stream_type meaning d = meaning_of_bytes meaning d system (raw_stream stream_type d)

-- the system information by its own stream, with none handed in, or the error
abbrev pub own_system : Dump → Result System Error
own_system d = stream_with None (number_of SystemInfoStream) system_info_in d

-- the system information, where its stream parses. Else it is absent, and the dump is still read
abbrev pub dump_system : Dump → Option System
dump_system d = result_ok (own_system d)

-- where reading that system information may run out of memory
abbrev pub system_memory : Dump → Type 0
system_memory d =
    IsOkAnd (raw_stream (number_of SystemInfoStream) d)
    (λ bytes. system_info_stream.memory d.order d.file bytes None)

-- how many of the three are read: the span of the stream, MINIDUMP_SYSTEM_INFO and the text of the
-- service pack
abbrev span_record_and_text : Result (List ℕ) Error → Option System → ℕ
span_record_and_text (Err StreamNotFound) system = 0
span_record_and_text (Err _) system = 1
span_record_and_text (Ok bytes) None = 2
span_record_and_text (Ok bytes) (Some system) = 3

-- the reads that the system information takes at least: its span, its record and its text, as far
-- as each is there to be read
abbrev pub system_reads : Dump → ℕ
system_reads d = span_record_and_text (raw_stream (number_of SystemInfoStream) d) (dump_system d)

-- the reads that a dump takes at least: one for the header, one for each entry, and those of its
-- system information
abbrev pub least_reads : Dump → ℕ
least_reads d = 1 + d.header.stream_count + system_reads d

-- the stream of a type, with the dump's system information
abbrev pub stream : {V : Type 0} → ℕ → Meaning V → Dump → Result V Error
stream stream_type meaning d = stream_with (dump_system d) stream_type meaning d

-- the stream of a table
abbrev pub stream_of : {S V : Type 0} → StreamSpec S V → Dump → Result V Error
stream_of spec d = stream spec.stream_type spec.meaning d

-- where reading that stream may run out of memory
abbrev pub stream_memory : {S V : Type 0} → StreamSpec S V → Dump → Type 0
stream_memory spec d = IsOkAnd (raw_stream spec.stream_type d) (λ b. spec.memory d.order d.file b (dump_system d))

-- a result is the stream of a table or its error; or memory ran out where it may
abbrev pub IsStreamOf : {S V : Type 0} → StreamSpec S V → Dump → Result S Error → Type 0
IsStreamOf spec d result = Gives spec.value (stream_memory spec d) result (stream_of spec d)

-- a result holds that stream or its error; or memory ran out where it may
abbrev pub IsTriedStream : {S V : Type 0} → StreamSpec S V → Dump
    → Result (Result S Error) Error → Type 0
IsTriedStream spec d (Ok tried) = map_ok spec.value tried ≡ stream_of spec d
IsTriedStream spec d (Err e) = (e ≡ OutOfMemory) × stream_memory spec d

-- a result is that stream, or none where it is missing or malformed; or memory ran out where it may
abbrev pub IsFoundStream : {S V : Type 0} → StreamSpec S V → Dump → Result (Option S) Error → Type 0
IsFoundStream spec d result =
    Gives (option_map spec.value) (stream_memory spec d) result (Ok (result_ok (stream_of spec d)))
