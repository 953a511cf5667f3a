-- The texts of Linux's files that a dump keeps: Breakpad's MD_LINUX_CPU_INFO, MD_LINUX_PROC_STATUS,
-- MD_LINUX_LSB_RELEASE and MD_LINUX_ENVIRON, and Mozilla's limits of a process.
pub mod Pairs
pub mod Text
use Rattle.std.specs.Prelude.{ℕ, List, Result, Ok}
use Rattle.minidump_format.specs.declared.format.stream_type.MINIDUMP_STREAM_TYPE.{MINIDUMP_STREAM_TYPE}
use Rattle.minidump_format.specs.declared.format.stream_type.MINIDUMP_STREAM_TYPE.TheVariants.{LinuxCpuInfo}
use Rattle.minidump_format.specs.declared.format.stream_type.MINIDUMP_STREAM_TYPE.TheVariants.{LinuxEnviron}
use Rattle.minidump_format.specs.declared.format.stream_type.MINIDUMP_STREAM_TYPE.TheVariants.{LinuxLsbRelease}
use Rattle.minidump_format.specs.declared.format.stream_type.MINIDUMP_STREAM_TYPE.TheVariants.{LinuxProcStatus}
use Rattle.minidump_format.specs.declared.format.stream_type.MINIDUMP_STREAM_TYPE.TheVariants.{MozLinuxLimits}
use Rattle.minidump_format.specs.declared.error.Error.{Error}
use Rattle.minidump_format.specs.StreamType.{number_of}
use Rattle.minidump_system.specs.StreamSpec.{StreamSpec}
use Rattle.minidump_records.specs.declared.linux.files.CpuInfo.{CpuInfo}
use Rattle.minidump_records.specs.declared.linux.files.Environ.{Environ}
use Rattle.minidump_records.specs.declared.linux.files.LsbRelease.{LsbRelease}
use Rattle.minidump_records.specs.declared.linux.files.ProcLimits.{ProcLimits}
use Rattle.minidump_records.specs.declared.linux.files.ProcStatus.{ProcStatus}
use Rattle.minidump_records.specs.declared.linux.text.LinuxText.{LinuxText}

-- the bytes of a text
abbrev pub linux_text_of : {F : Type 0} → LinuxText F → List ℕ
linux_text_of t = t.data.now

-- the stream is the text
abbrev pub linux_text_in : List ℕ → Result (List ℕ) Error
linux_text_in bytes = Ok bytes

-- the table of a text: reading it takes no step and no memory
abbrev pub linux_text_stream : {F : Type 0} → MINIDUMP_STREAM_TYPE
    → StreamSpec (LinuxText F) (List ℕ)
linux_text_stream stream_type = record {
  stream_type = number_of stream_type;
  value = linux_text_of;
  meaning = λ order file bytes system. linux_text_in bytes;
  most = λ n. 0;
  fewest = λ order bytes system value. 0;
  memory = λ order file bytes system. ⊥;
}

-- the stream of type LinuxEnviron
abbrev pub linux_environ_stream : StreamSpec (LinuxText Environ) (List ℕ)
linux_environ_stream = linux_text_stream LinuxEnviron

-- the stream of type LinuxProcStatus
abbrev pub linux_proc_status_stream : StreamSpec (LinuxText ProcStatus) (List ℕ)
linux_proc_status_stream = linux_text_stream LinuxProcStatus

-- the stream of type LinuxLsbRelease
abbrev pub linux_lsb_release_stream : StreamSpec (LinuxText LsbRelease) (List ℕ)
linux_lsb_release_stream = linux_text_stream LinuxLsbRelease

-- the stream of type MozLinuxLimits
abbrev pub linux_proc_limits_stream : StreamSpec (LinuxText ProcLimits) (List ℕ)
linux_proc_limits_stream = linux_text_stream MozLinuxLimits

-- the stream of type LinuxCpuInfo
abbrev pub linux_cpu_info_stream : StreamSpec (LinuxText CpuInfo) (List ℕ)
linux_cpu_info_stream = linux_text_stream LinuxCpuInfo
