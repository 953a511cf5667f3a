-- How a field is added to each message of a stability report, as tables of rows: what
-- `Message::put` does. What the fields of a message mean is StabilityReport.antt.
use Rattle.std.specs.Prelude.{Option, None}
use Rattle.minidump_bytes.specs.Wire.{Field}
use Rattle.minidump_stability.specs.declared.process_state.FileSystemState.{FileSystemState}
use Rattle.minidump_stability.specs.declared.process_state.MemoryState.{MemoryState}
use Rattle.minidump_stability.specs.declared.process_state.file_system_state.PosixFileSystemState.{PosixFileSystemState}
use Rattle.minidump_stability.specs.declared.process_state.file_system_state.WindowsFileSystemState.{}
use Rattle.minidump_stability.specs.declared.process_state.file_system_state.WindowsFileSystemState.{WindowsFileSystemState}
use Rattle.minidump_stability.specs.declared.process_state.memory_state.WindowsMemory.{WindowsMemory}
use Rattle.minidump_stability.specs.declared.report.ProcessState.{ProcessState}
use Rattle.minidump_stability.specs.declared.report.SystemMemoryState.{SystemMemoryState}
use Rattle.minidump_stability.specs.declared.system_memory_state.WindowsMemory as system
use Rattle.minidump_stability.specs.Fields.{int64_in, uint32_in}
use Rattle.minidump_stability.specs.StabilityReport.{Report, file_system_state_of, process_state_of}
use Rattle.minidump_stability.specs.StabilityReport.{report_of, system_windows_memory_of, windows_memory_of}
use Rattle.minidump_stability.specs.Rows.{one_nested, one_repeated, only, row, scalar_row, through}

-- ProcessState.MemoryState.WindowsMemory without fields
abbrev pub no_windows_memory : WindowsMemory
no_windows_memory = record {
  process_private_usage = None;
  process_peak_workingset_size = None;
  process_peak_pagefile_usage = None;
  process_allocation_attempt = None;
}

-- ProcessState.MemoryState.WindowsMemory with one field more
unfoldable pub put_windows_memory : Field → WindowsMemory → Option WindowsMemory
put_windows_memory =
    through (λ m. (
      m.process_private_usage,
      (
        m.process_peak_workingset_size,
        (m.process_peak_pagefile_usage, m.process_allocation_attempt),
      ),
    ))
    windows_memory_of
    (row 1 (scalar_row uint32_in)
    (row 2 (scalar_row uint32_in) (row 3 (scalar_row uint32_in) (only 4 (scalar_row uint32_in)))))

-- ProcessState.MemoryState without fields
abbrev pub no_memory_state : MemoryState
no_memory_state = record { windows_memory = None }

-- ProcessState.MemoryState with one field more
unfoldable pub put_memory_state : Field → MemoryState → Option MemoryState
put_memory_state =
    through (λ m. m.windows_memory) (λ v. record { windows_memory = v })
    (only 1 (one_nested put_windows_memory no_windows_memory))

-- ProcessState.FileSystemState.PosixFileSystemState without fields
abbrev pub no_posix_file_system_state : PosixFileSystemState
no_posix_file_system_state = record { open_file_descriptors = None }

-- ProcessState.FileSystemState.PosixFileSystemState with one field more
unfoldable pub put_posix_file_system_state : Field → PosixFileSystemState
    → Option PosixFileSystemState
put_posix_file_system_state =
    through (λ m. m.open_file_descriptors) (λ v. record { open_file_descriptors = v })
    (only 1 (scalar_row uint32_in))

-- ProcessState.FileSystemState.WindowsFileSystemState without fields
abbrev pub no_windows_file_system_state : WindowsFileSystemState
no_windows_file_system_state = record { process_handle_count = None }

-- ProcessState.FileSystemState.WindowsFileSystemState with one field more
unfoldable pub put_windows_file_system_state : Field → WindowsFileSystemState
    → Option WindowsFileSystemState
put_windows_file_system_state =
    through (λ m. m.process_handle_count) (λ v. record { process_handle_count = v })
    (only 1 (scalar_row uint32_in))

-- ProcessState.FileSystemState without fields
abbrev pub no_file_system_state : FileSystemState
no_file_system_state = record { posix_file_system_state = None; windows_file_system_state = None }

-- ProcessState.FileSystemState with one field more
unfoldable pub put_file_system_state : Field → FileSystemState → Option FileSystemState
put_file_system_state =
    through (λ m. (m.posix_file_system_state, m.windows_file_system_state)) file_system_state_of
    (row 1 (one_nested put_posix_file_system_state no_posix_file_system_state)
    (only 2 (one_nested put_windows_file_system_state no_windows_file_system_state)))

-- ProcessState without fields
abbrev pub no_process_state : ProcessState
no_process_state = record { process_id = None; memory_state = None; file_system_state = None }

-- ProcessState with one field more
unfoldable pub put_process_state : Field → ProcessState → Option ProcessState
put_process_state =
    through (λ m. (m.process_id, (m.memory_state, m.file_system_state))) process_state_of
    (row 3 (scalar_row int64_in)
    (row 4 (one_nested put_memory_state no_memory_state)
    (only 7 (one_nested put_file_system_state no_file_system_state))))

-- SystemMemoryState.WindowsMemory without fields
abbrev pub no_system_windows_memory : system.WindowsMemory
no_system_windows_memory =
    record { system_commit_limit = None; system_commit_remaining = None; system_handle_count = None }

-- SystemMemoryState.WindowsMemory with one field more
unfoldable pub put_system_windows_memory : Field → system.WindowsMemory
    → Option system.WindowsMemory
put_system_windows_memory =
    through (λ m. (m.system_commit_limit, (m.system_commit_remaining, m.system_handle_count)))
    system_windows_memory_of
    (row 1 (scalar_row uint32_in) (row 2 (scalar_row uint32_in) (only 3 (scalar_row uint32_in))))

-- SystemMemoryState without fields
abbrev pub no_system_memory_state : SystemMemoryState
no_system_memory_state = record { windows_memory = None }

-- SystemMemoryState with one field more
unfoldable pub put_system_memory_state : Field → SystemMemoryState → Option SystemMemoryState
put_system_memory_state =
    through (λ m. m.windows_memory) (λ v. record { windows_memory = v })
    (only 1 (one_nested put_system_windows_memory no_system_windows_memory))

-- StabilityReport with one field more
unfoldable pub put_report : Field → Report → Option Report
put_report =
    through (λ m. (m.process_states, m.system_memory_state)) report_of
    (row 2 (one_repeated put_process_state no_process_state)
    (only 7 (one_nested put_system_memory_state no_system_memory_state)))
