-- Lines of names, as `names/compile` found them in the files of `names/`.
use Rattle.std.specs.Prelude.{ℕ, List, ◌++◌}
use Rattle.known_names.specs.declared.windows.TheConstants.{WINDOWS_1}
use Rattle.known_names.specs.declared.nt_status.TheConstants.{NT_STATUS_1, NT_STATUS_2, NT_STATUS_3, NT_STATUS_4}
use Rattle.known_names.specs.declared.nt_status.TheConstants.{NT_STATUS_5}
use Rattle.known_names.specs.declared.win_error.TheConstants.{WIN_ERROR_1, WIN_ERROR_2, WIN_ERROR_3, WIN_ERROR_4}
use Rattle.known_names.specs.declared.win_error.TheConstants.{WIN_ERROR_5}
use Rattle.known_names.specs.declared.linux.TheConstants.{LINUX_1}
use Rattle.known_names.specs.declared.macos.TheConstants.{MACOS_1}

-- The lines of the constant `WINDOWS_1`.
unfoldable pub windows_1 : List ℕ
windows_1 = WINDOWS_1.now

-- The lines of Windows but for NTSTATUS values and Win32 errors.
unfoldable pub windows_lines : List ℕ
windows_lines = windows_1

-- The lines of the constant `NT_STATUS_1`.
unfoldable pub nt_status_1 : List ℕ
nt_status_1 = NT_STATUS_1.now

-- The lines of the constant `NT_STATUS_2`.
unfoldable pub nt_status_2 : List ℕ
nt_status_2 = NT_STATUS_2.now

-- The lines of the constant `NT_STATUS_3`.
unfoldable pub nt_status_3 : List ℕ
nt_status_3 = NT_STATUS_3.now

-- The lines of the constant `NT_STATUS_4`.
unfoldable pub nt_status_4 : List ℕ
nt_status_4 = NT_STATUS_4.now

-- The lines of the constant `NT_STATUS_5`.
unfoldable pub nt_status_5 : List ℕ
nt_status_5 = NT_STATUS_5.now

-- The lines of NTSTATUS values.
unfoldable pub nt_status_lines : List ℕ
nt_status_lines = nt_status_1 ++ nt_status_2 ++ nt_status_3 ++ nt_status_4 ++ nt_status_5

-- The lines of the constant `WIN_ERROR_1`.
unfoldable pub win_error_1 : List ℕ
win_error_1 = WIN_ERROR_1.now

-- The lines of the constant `WIN_ERROR_2`.
unfoldable pub win_error_2 : List ℕ
win_error_2 = WIN_ERROR_2.now

-- The lines of the constant `WIN_ERROR_3`.
unfoldable pub win_error_3 : List ℕ
win_error_3 = WIN_ERROR_3.now

-- The lines of the constant `WIN_ERROR_4`.
unfoldable pub win_error_4 : List ℕ
win_error_4 = WIN_ERROR_4.now

-- The lines of the constant `WIN_ERROR_5`.
unfoldable pub win_error_5 : List ℕ
win_error_5 = WIN_ERROR_5.now

-- The lines of Win32 errors.
unfoldable pub win_error_lines : List ℕ
win_error_lines = win_error_1 ++ win_error_2 ++ win_error_3 ++ win_error_4 ++ win_error_5

-- The lines of the constant `LINUX_1`.
unfoldable pub linux_1 : List ℕ
linux_1 = LINUX_1.now

-- The lines of Linux.
unfoldable pub linux_lines : List ℕ
linux_lines = linux_1

-- The lines of the constant `MACOS_1`.
unfoldable pub macos_1 : List ℕ
macos_1 = MACOS_1.now

-- The lines of macOS.
unfoldable pub macos_lines : List ℕ
macos_lines = macos_1

-- All lines.
unfoldable pub all_lines : List ℕ
all_lines = windows_lines ++ nt_status_lines ++ win_error_lines ++ linux_lines ++ macos_lines
