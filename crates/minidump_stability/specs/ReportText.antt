-- The text of a stability report: a line for each number that is there.
use Rattle.std.specs.Prelude.{ℕ, ℤ, List, [], ◌∷◌, ◌++◌, codes}
use Rattle.std.specs.Fmt.{decimal, signed_decimal}
use Rattle.std.specs.List.{concat, flat_map, enumerate_from}
use Rattle.minidump_format.specs.Text.{if_there}
use Rattle.minidump_stability.specs.declared.process_state.FileSystemState.{FileSystemState}
use Rattle.minidump_stability.specs.declared.process_state.MemoryState.{MemoryState}
use Rattle.minidump_stability.specs.declared.process_state.file_system_state.PosixFileSystemState.{PosixFileSystemState}
use Rattle.minidump_stability.specs.declared.process_state.file_system_state.WindowsFileSystemState.{}
use Rattle.minidump_stability.specs.declared.process_state.file_system_state.WindowsFileSystemState.{WindowsFileSystemState}
use Rattle.minidump_stability.specs.declared.process_state.memory_state.WindowsMemory.{WindowsMemory}
use Rattle.minidump_stability.specs.declared.report.ProcessState.{ProcessState}
use Rattle.minidump_stability.specs.declared.report.SystemMemoryState.{SystemMemoryState}
use Rattle.minidump_stability.specs.declared.system_memory_state.WindowsMemory as system
use Rattle.minidump_stability.specs.StabilityReport.{Report}

-- a line of a number
unfoldable pub number_line : List ℕ → ℕ → List ℕ
number_line name n = concat (codes "  " ∷ name ∷ codes " = " ∷ decimal n ∷ codes "\n" ∷ [])

-- a line of a number of the process with an index
unfoldable pub state_line : ℕ → List ℕ → ℕ → List ℕ
state_line i name n =
    concat (codes "  process_state[" ∷ decimal i ∷ codes "]." ∷ name ∷ codes " = " ∷ decimal n
    ∷ codes "\n" ∷ [])

-- ProcessState.process_id, of the process with an index
unfoldable pub process_id_line : ℕ → ℤ → List ℕ
process_id_line i id =
    concat (codes "  process_state[" ∷ decimal i ∷ codes "].process_id = " ∷ signed_decimal id
    ∷ codes "\n" ∷ [])

-- ProcessState.MemoryState.WindowsMemory; its lines don't name it
abbrev pub windows_memory_text : ℕ → WindowsMemory → List ℕ
windows_memory_text i m =
    if_there (state_line i (codes "memory_state.process_private_usage")) m.process_private_usage
    ++ (if_there (state_line i (codes "memory_state.process_peak_workingset_size")) m.process_peak_workingset_size
    ++ (if_there (state_line i (codes "memory_state.process_peak_pagefile_usage")) m.process_peak_pagefile_usage
    ++ if_there (state_line i (codes "memory_state.process_allocation_attempt")) m.process_allocation_attempt))

-- ProcessState.MemoryState
abbrev pub memory_state_text : ℕ → MemoryState → List ℕ
memory_state_text i m = if_there (windows_memory_text i) m.windows_memory

-- ProcessState.FileSystemState.PosixFileSystemState; its line doesn't name the process, nor do
-- those of WindowsFileSystemState
abbrev pub posix_file_system_state_text : PosixFileSystemState → List ℕ
posix_file_system_state_text m =
    if_there (number_line (codes "file_system_state.posix_file_system_state.open_file_descriptors"))
    m.open_file_descriptors

-- ProcessState.FileSystemState.WindowsFileSystemState
abbrev pub windows_file_system_state_text : WindowsFileSystemState → List ℕ
windows_file_system_state_text m =
    if_there (number_line (codes "file_system_state.windows_file_system_state.process_handle_count"))
    m.process_handle_count

-- ProcessState.FileSystemState
abbrev pub file_system_state_text : FileSystemState → List ℕ
file_system_state_text m =
    if_there posix_file_system_state_text m.posix_file_system_state
    ++ if_there windows_file_system_state_text m.windows_file_system_state

-- ProcessState, of the process with an index
abbrev pub process_state_text : ℕ → ProcessState → List ℕ
process_state_text i s =
    if_there (process_id_line i) s.process_id
    ++ (if_there (memory_state_text i) s.memory_state
    ++ if_there file_system_state_text s.file_system_state)

-- SystemMemoryState.WindowsMemory
abbrev pub system_windows_memory_text : system.WindowsMemory → List ℕ
system_windows_memory_text m =
    if_there (number_line (codes "system_memory_state.windows_memory.system_commit_limit")) m.system_commit_limit
    ++ (if_there (number_line (codes "system_memory_state.windows_memory.system_commit_remaining")) m.system_commit_remaining
    ++ if_there (number_line (codes "system_memory_state.windows_memory.system_handle_count")) m.system_handle_count)

-- SystemMemoryState
abbrev pub system_memory_state_text : SystemMemoryState → List ℕ
system_memory_state_text m = if_there system_windows_memory_text m.windows_memory

-- the states of the processes, each with its index
abbrev pub process_states_text : List ProcessState → List ℕ
process_states_text states = flat_map (λ p. process_state_text p.0 p.1) (enumerate_from 0 states)

-- StabilityReport
abbrev pub stability_report_text : Report → List ℕ
stability_report_text r =
    codes "StabilityReport\n"
    ++ (process_states_text r.process_states
    ++ if_there system_memory_state_text r.system_memory_state)
