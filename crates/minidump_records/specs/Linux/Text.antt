-- The text of Linux's files in a report: the name of the type, and a line for each pair, or for
-- each line of the limits.
use Rattle.std.specs.Prelude.{ℕ, List, [], ◌∷◌, ◌++◌, codes}
use Rattle.std.specs.List.{concat, flat_map}
use Rattle.minidump_bytes.specs.LinuxOsStr.{text_lines}
use Rattle.minidump_format.specs.StreamType.{type_name}
use Rattle.minidump_format.specs.declared.format.stream_type.MINIDUMP_STREAM_TYPE.{MINIDUMP_STREAM_TYPE}
use Rattle.minidump_format.specs.declared.format.stream_type.MINIDUMP_STREAM_TYPE.TheVariants.{LinuxCpuInfo}
use Rattle.minidump_format.specs.declared.format.stream_type.MINIDUMP_STREAM_TYPE.TheVariants.{LinuxEnviron}
use Rattle.minidump_format.specs.declared.format.stream_type.MINIDUMP_STREAM_TYPE.TheVariants.{LinuxLsbRelease}
use Rattle.minidump_format.specs.declared.format.stream_type.MINIDUMP_STREAM_TYPE.TheVariants.{LinuxProcStatus}
use Rattle.minidump_format.specs.declared.format.stream_type.MINIDUMP_STREAM_TYPE.TheVariants.{MozLinuxLimits}
use Rattle.minidump_format.specs.Text.{line_end}
use Rattle.minidump_records.specs.Linux.Pairs.{pairs_of}

-- the name of a type of stream, on a line
unfoldable pub name_line : MINIDUMP_STREAM_TYPE → List ℕ
name_line stream_type = type_name stream_type ++ line_end

-- a key and its value, as the bytes that they are
unfoldable pub pair_line : List ℕ × List ℕ → List ℕ
pair_line pair = concat (codes "  " ∷ pair.0 ∷ codes " = " ∷ pair.1 ∷ codes "\n" ∷ [])

-- a limit, as the bytes that it is
unfoldable pub limit_line : List ℕ → List ℕ
limit_line line = concat (codes "  " ∷ line ∷ codes "\n" ∷ [])

-- the printed text of a file whose lines are pairs around a separator
abbrev pub linux_pairs_text : MINIDUMP_STREAM_TYPE → ℕ → List ℕ → List ℕ
linux_pairs_text stream_type separator text =
    name_line stream_type ++ flat_map pair_line (pairs_of separator text)

-- the printed text of /proc/cpuinfo; its separator is a colon
abbrev pub linux_cpu_info_text : List ℕ → List ℕ
linux_cpu_info_text text = linux_pairs_text LinuxCpuInfo 58 text

-- the printed text of /proc/PID/status; its separator is a colon
abbrev pub linux_proc_status_text : List ℕ → List ℕ
linux_proc_status_text text = linux_pairs_text LinuxProcStatus 58 text

-- the printed text of /etc/lsb-release; its separator is an equals sign
abbrev pub linux_lsb_release_text : List ℕ → List ℕ
linux_lsb_release_text text = linux_pairs_text LinuxLsbRelease 61 text

-- the printed text of /proc/PID/environ; its separator is an equals sign
abbrev pub linux_environ_text : List ℕ → List ℕ
linux_environ_text text = linux_pairs_text LinuxEnviron 61 text

-- the printed text of /proc/PID/limits
abbrev pub linux_proc_limits_text : List ℕ → List ℕ
linux_proc_limits_text text = name_line MozLinuxLimits ++ flat_map limit_line (text_lines text)
