-- What the header and the directory of a dump say: when it was written, which streams it has, each
-- with the error for which it can't be read, and how many entries are lost: they don't decide, and lie
-- outside the file.
use Rattle.std.specs.Prelude.{◌≡◌, ◌-◌, ◌==◌, ◌&&◌, ℕ, Bool, List, count_by, is_none, length, map, not, Option}
use Rattle.std.specs.Prelude.{Result, Err, slice_get, unwrap_or}
use Rattle.std.specs.Option.{option_map_or}
use Rattle.std.specs.Result.{result_err}
use Rattle.minidump.specs.declared.Error.{Error}
use Rattle.minidump.specs.declared.Error.TheVariants.{StreamNotFound}
use Rattle.minidump.specs.declared.format.MINIDUMP_DIRECTORY.{MINIDUMP_DIRECTORY}
use Rattle.minidump.specs.declared.format.MINIDUMP_STREAM_TYPE.{MINIDUMP_STREAM_TYPE}
use Rattle.minidump.specs.declared.format.MINIDUMP_STREAM_TYPE.TheVariants as stream
use Rattle.minidump.specs.Below.Format.Header.{located}
use Rattle.minidump.specs.Below.Format.StreamType.{stream_type_of}
use Rattle.minidump.specs.Dump.{Dump, all_entries, raw_stream, stream_of, streams_of}
use Rattle.minidump.specs.Exception.{Exception, exception_stream}
use Rattle.minidump.specs.Exceptions.{exceptions_in}
use Rattle.minidump.specs.Streams.{entries_of}
use Rattle.crash_process.specs.declared.directory.CrashDirectory.{CrashDirectory}
use Rattle.crash_process.specs.declared.directory.StreamEntry.{StreamEntry}
use Rattle.crash_streams.specs.Contents.{ContentsValue}

-- when a dump was written, its streams, and how many entries are lost
pub record DirectoryValue : Type 0 where
  pub written : ℕ
  pub entries : List StreamEntry
  pub entries_outside : ℕ

-- the same of a `CrashDirectory`
abbrev pub directory_of : CrashDirectory → DirectoryValue
directory_of d = record {
  written = d.written;
  entries = d.entries.items;
  entries_outside = d.entries_outside;
}

-- the error for which the bytes of a stream can't be had
abbrev pub raw_error : Dump → ℕ → Option Error
raw_error d number = result_err (raw_stream number d)

-- the error for which the exception stream can't be read, which is the last of the exceptions:
-- `StreamNotFound` where there are none
abbrev pub last_error : List (Result Exception Error) → Option Error
last_error exceptions =
    result_err (unwrap_or (slice_get exceptions (length exceptions - 1)) (Err StreamNotFound))

-- that is the error of the stream of a dump
abbrev pub HasErrorOfStream : Dump → Type 0
HasErrorOfStream d = last_error (exceptions_in d) ≡ result_err (stream_of exception_stream d)

-- the error for which the stream of a type can't be read; where the type is never read, that of its
-- bytes
abbrev pub error_of_type : Dump → ContentsValue → ℕ → MINIDUMP_STREAM_TYPE → Option Error
error_of_type d c n stream.SystemInfoStream = result_err c.system.system
error_of_type d c n stream.MiscInfoStream = result_err c.system.misc
error_of_type d c n stream.BreakpadInfoStream = result_err c.system.breakpad
error_of_type d c n stream.LinuxCpuInfo = result_err c.system.cpu_info
error_of_type d c n stream.LinuxLsbRelease = result_err c.system.lsb_release
error_of_type d c n stream.ExceptionStream = last_error c.threads.exceptions
error_of_type d c n stream.ThreadListStream = result_err c.threads.threads
error_of_type d c n stream.ThreadNamesStream = result_err c.threads.names
error_of_type d c n stream.ThreadInfoListStream = result_err c.threads.infos
error_of_type d c n stream.ModuleListStream = c.space.modules_error
error_of_type d c n stream.UnloadedModuleListStream = result_err c.space.unloaded
error_of_type d c n stream.Memory64ListStream = c.space.memory_errors.0
error_of_type d c n stream.MemoryListStream = c.space.memory_errors.1
error_of_type d c n stream.MemoryInfoListStream = c.space.infos_errors.0
error_of_type d c n stream.LinuxMaps = c.space.infos_errors.1
error_of_type d c n stream.AssertionInfoStream = result_err c.messages.assertion
error_of_type d c n stream.CrashpadInfoStream = result_err c.messages.crashpad
error_of_type d c n stream.MozMacosCrashInfoStream = result_err c.messages.mac_crash_info
error_of_type d c n stream.MozMacosBootargsStream = result_err c.messages.mac_boot_args
error_of_type d c n stream.MozSoftErrors = result_err c.messages.soft_errors
error_of_type d c n stream.StabilityReportStream = result_err c.messages.stability
error_of_type d c n stream.HandleDataStream = result_err c.process.handles
error_of_type d c n stream.LinuxProcStatus = result_err c.process.status
error_of_type d c n stream.LinuxEnviron = result_err c.process.environ
error_of_type d c n stream.MozLinuxLimits = result_err c.process.limits
error_of_type d c n _ = raw_error d n

-- the same by the number of a type: one that has no name is never read
abbrev pub error_of_number : Dump → ContentsValue → ℕ → Option Error
error_of_number d c n = option_map_or (error_of_type d c n) (stream_type_of n) (raw_error d n)

-- the stream of an entry that decides
abbrev pub entry_in : Dump → ContentsValue → MINIDUMP_DIRECTORY → StreamEntry
entry_in d c e = record {
  number = e.stream_type;
  size = e.location.data_size;
  rva = e.location.rva;
  error = error_of_number d c e.stream_type;
}

-- the streams, ascending by type
abbrev pub entries_in : Dump → ContentsValue → List StreamEntry
entries_in d c = map (entry_in d c) (entries_of (streams_of d))

-- an entry is lost: its bytes are not all in the file, but those of the stream of its type are, which
-- another entry decides. Of exceptions each entry is read
abbrev pub is_lost : Dump → MINIDUMP_DIRECTORY → Bool
is_lost d e = is_none (located d.file e.location) && is_none (raw_error d e.stream_type)
    && not (e.stream_type == exception_stream.stream_type)

-- how many of them there are
abbrev pub outside_in : Dump → ℕ
outside_in d = count_by (is_lost d) (all_entries d)

-- what the directory of a dump says
abbrev pub directory_in : Dump → ContentsValue → DirectoryValue
directory_in d c = record {
  written = d.header.time_date_stamp;
  entries = entries_in d c;
  entries_outside = outside_in d;
}
