-- The messages of Chromium's stability_report_in.proto: each field by its number, other fields are
-- skipped.
use Rattle.std.specs.Prelude.{◌≡◌, ℕ, ℤ, ◌+◌, List, [], Option, None, Result, unwrap_or}
use Rattle.std.specs.Option.{ok_or, option_and_then, option_map}
use Rattle.minidump_bytes.specs.Wire.{Bytes, Field}
use Rattle.minidump_format.specs.declared.error.Error.{Error}
use Rattle.minidump_format.specs.declared.format.stream_type.MINIDUMP_STREAM_TYPE.TheVariants.{StabilityReportStream}
use Rattle.minidump_format.specs.declared.error.Error.TheVariants.{DataError}
use Rattle.minidump_format.specs.StreamType.{number_of}
use Rattle.minidump_system.specs.StreamSpec.{StreamSpec}
use Rattle.minidump_stability.specs.declared.process_state.FileSystemState.{FileSystemState}
use Rattle.minidump_stability.specs.declared.process_state.MemoryState.{MemoryState}
use Rattle.minidump_stability.specs.declared.process_state.file_system_state.PosixFileSystemState.{PosixFileSystemState}
use Rattle.minidump_stability.specs.declared.process_state.file_system_state.WindowsFileSystemState.{}
use Rattle.minidump_stability.specs.declared.process_state.file_system_state.WindowsFileSystemState.{WindowsFileSystemState}
use Rattle.minidump_stability.specs.declared.process_state.memory_state.WindowsMemory.{WindowsMemory}
use Rattle.minidump_stability.specs.declared.report.ProcessState.{ProcessState}
use Rattle.minidump_stability.specs.declared.report.StabilityReport.{StabilityReport}
use Rattle.minidump_stability.specs.declared.report.SystemMemoryState.{SystemMemoryState}
use Rattle.minidump_stability.specs.declared.system_memory_state.WindowsMemory as system
use Rattle.minidump_stability.specs.Fields.{HasField, both, field_count, fields_in, int64_in, nested}
use Rattle.minidump_stability.specs.Fields.{none_within, repeated, scalar, uint32_in, within}

-- ProcessState.MemoryState.WindowsMemory of the values of its fields
abbrev pub windows_memory_of : Option ℕ × (Option ℕ × (Option ℕ × Option ℕ)) → WindowsMemory
windows_memory_of v = record {
  process_private_usage = v.0;
  process_peak_workingset_size = v.1.0;
  process_peak_pagefile_usage = v.1.1.0;
  process_allocation_attempt = v.1.1.1;
}

-- ProcessState.MemoryState.WindowsMemory by its fields
abbrev pub windows_memory : List Field → Option WindowsMemory
windows_memory fs =
    option_map windows_memory_of
    (both (scalar uint32_in 1 fs)
    (both (scalar uint32_in 2 fs) (both (scalar uint32_in 3 fs) (scalar uint32_in 4 fs))))

-- ProcessState.MemoryState by its fields
abbrev pub memory_state : List Field → Option MemoryState
memory_state fs =
    option_map (λ memory. record { windows_memory = memory }) (nested windows_memory 1 fs)

-- ProcessState.FileSystemState.PosixFileSystemState by its fields
abbrev pub posix_file_system_state : List Field → Option PosixFileSystemState
posix_file_system_state fs =
    option_map (λ files. record { open_file_descriptors = files }) (scalar uint32_in 1 fs)

-- ProcessState.FileSystemState.WindowsFileSystemState by its fields
abbrev pub windows_file_system_state : List Field → Option WindowsFileSystemState
windows_file_system_state fs =
    option_map (λ handles. record { process_handle_count = handles }) (scalar uint32_in 1 fs)

-- ProcessState.FileSystemState of the values of its fields
abbrev pub file_system_state_of : Option PosixFileSystemState × Option WindowsFileSystemState
    → FileSystemState
file_system_state_of v =
    record { posix_file_system_state = v.0; windows_file_system_state = v.1 }

-- ProcessState.FileSystemState by its fields
abbrev pub file_system_state : List Field → Option FileSystemState
file_system_state fs =
    option_map file_system_state_of
    (both (nested posix_file_system_state 1 fs) (nested windows_file_system_state 2 fs))

-- ProcessState of the values of its fields
abbrev pub process_state_of : Option ℤ × (Option MemoryState × Option FileSystemState) → ProcessState
process_state_of v =
    record { process_id = v.0; memory_state = v.1.0; file_system_state = v.1.1 }

-- ProcessState by its fields
abbrev pub process_state : List Field → Option ProcessState
process_state fs =
    option_map process_state_of
    (both (scalar int64_in 3 fs) (both (nested memory_state 4 fs) (nested file_system_state 7 fs)))

-- SystemMemoryState.WindowsMemory of the values of its fields
abbrev pub system_windows_memory_of : Option ℕ × (Option ℕ × Option ℕ) → system.WindowsMemory
system_windows_memory_of v = record {
  system_commit_limit = v.0;
  system_commit_remaining = v.1.0;
  system_handle_count = v.1.1;
}

-- SystemMemoryState.WindowsMemory by its fields
abbrev pub system_windows_memory : List Field → Option system.WindowsMemory
system_windows_memory fs =
    option_map system_windows_memory_of
    (both (scalar uint32_in 1 fs) (both (scalar uint32_in 2 fs) (scalar uint32_in 3 fs)))

-- SystemMemoryState by its fields
abbrev pub system_memory_state : List Field → Option SystemMemoryState
system_memory_state fs =
    option_map (λ memory. record { windows_memory = memory }) (nested system_windows_memory 1 fs)

-- StabilityReport
pub record Report : Type 0 where
  pub process_states : List ProcessState
  pub system_memory_state : Option SystemMemoryState

-- the StabilityReport of no fields
abbrev pub no_report : Report
no_report = record { process_states = []; system_memory_state = None }

-- StabilityReport of the values of its fields
abbrev pub report_of : List ProcessState × Option SystemMemoryState → Report
report_of v = record { process_states = v.0; system_memory_state = v.1 }

-- the StabilityReport of fields, with process_states as 2 and system_memory_state as 7
abbrev pub report : List Field → Option Report
report fs =
    option_map report_of
    (both (repeated process_state 2 fs) (nested system_memory_state 7 fs))

-- the report that a stream holds. A field of a message that has another wire type than its own is
-- `DataError`
abbrev pub stability_report_in : List ℕ → Result Report Error
stability_report_in bytes = ok_or (option_and_then report (fields_in bytes)) DataError

-- the report of a `StabilityReport`
abbrev pub stability_report_of : StabilityReport → Report
stability_report_of r =
    record { process_states = r.process_states.items; system_memory_state = r.system_memory_state }

-- ---- where memory is taken
-- a field of the state of a process: its number is 2, and its payload is bytes
abbrev pub IsState : Field → Type 0
IsState f = (f.number ≡ 2) × (bytes : List ℕ) × (f.payload ≡ Bytes bytes)

-- no field, of a message that takes no memory
abbrev pub NoField : Field → Type 0
NoField f = ⊥

-- ---- how many fields are inside a field of each message
-- how many fields are inside a ProcessState.MemoryState
unfoldable pub memory_state_fields : Field → ℕ
memory_state_fields f = within 1 none_within f

-- how many fields are inside a ProcessState.FileSystemState
unfoldable pub file_system_state_fields : Field → ℕ
file_system_state_fields f = within 1 none_within f + within 2 none_within f

-- how many fields are inside a ProcessState
unfoldable pub process_state_fields : Field → ℕ
process_state_fields f = within 4 memory_state_fields f + within 7 file_system_state_fields f

-- how many fields are inside a SystemMemoryState
unfoldable pub system_memory_state_fields : Field → ℕ
system_memory_state_fields f = within 1 none_within f

-- how many fields are inside a StabilityReport
unfoldable pub report_fields : Field → ℕ
report_fields f = within 2 process_state_fields f + within 7 system_memory_state_fields f

-- how many fields a stream has, including those of nested messages
abbrev pub fields_of_report : List ℕ → ℕ
fields_of_report bytes = field_count report_fields (unwrap_or (fields_in bytes) [])

-- the stream of type StabilityReportStream
abbrev pub stability_report_stream : StreamSpec StabilityReport Report
stability_report_stream = record {
  stream_type = number_of StabilityReportStream;
  value = stability_report_of;
  meaning = λ order file bytes system. stability_report_in bytes;
  most = λ n. n + 7;
  fewest = λ order bytes system report. fields_of_report bytes;
  memory = λ order file bytes system. HasField IsState bytes;
}
