-- What is known of a process, and of the system on which it ran.
use Rattle.std.specs.Prelude.{ℕ, ◌-◌, ◌==◌, List, codes, map, nat_le, Option, Some, None, Result}
use Rattle.std.specs.Prelude.{if◌then◌else◌, string_bytes}
use Rattle.std.specs.Option.{option_and_then, option_map, option_or}
use Rattle.std.specs.Result.{result_ok}
use Rattle.minidump.specs.declared.Error.{Error}
use Rattle.minidump.specs.declared.RawMiscInfo.{RawMiscInfo}
use Rattle.minidump.specs.declared.system_info.Cpu.{Cpu}
use Rattle.minidump.specs.declared.system_info.Os.{Os}
use Rattle.minidump.specs.declared.system_info.Os.TheVariants.{Android}
use Rattle.minidump.specs.Below.System.MiscInfo.{process_create_time, process_id}
use Rattle.minidump.specs.Below.System.OsParts.{os_parts_of}
use Rattle.minidump.specs.Below.System.System.{System}
use Rattle.minidump.specs.Dump.{Dump}
use Rattle.crash_process.specs.declared.process.CrashProcess.{CrashProcess}
use Rattle.crash_process.specs.declared.process.CrashSystem.{CrashSystem}
use Rattle.crash_streams.specs.Contents.{ContentsValue}
use Rattle.crash_process.specs.HandleKinds.{KindValue, kind_of, kinds_in}
use Rattle.crash_process.specs.ProcessTexts.{CommentsValue, command_line_in, comments_in, comments_of}
use Rattle.crash_process.specs.ProcessTexts.{cpu_text, status_number, status_size}
use Rattle.crash_process.specs.Release.{ReleaseValue, release_in, release_of}

-- a system: its kind, that of its processors and how many there are, its version with the build,
-- the description of the processor, and the version of its microcode
pub record SystemValue : Type 0 where
  pub os : Os
  pub cpu : Cpu
  pub processors : ℕ
  pub version : List ℕ
  pub build : Option (List ℕ)
  pub cpu_model : Option (List ℕ)
  pub microcode : Option (List ℕ)

-- a process: its system, its id and that of its parent, for how many seconds it had run, how many
-- bytes of it were in memory, the release of its Linux, its command line, the comments of the dump,
-- and the kinds of its handles
pub record ProcessFacts : Type 0 where
  pub system : Option SystemValue
  pub id : Option ℕ
  pub parent : Option ℕ
  pub uptime : Option ℕ
  pub resident : Option ℕ
  pub release : Option ReleaseValue
  pub command_line : Option (List ℕ)
  pub comments : CommentsValue
  pub handle_kinds : List KindValue

-- ---- the value of the structs

abbrev pub system_of : CrashSystem → SystemValue
system_of s = record {
  os = s.os;
  cpu = s.cpu;
  processors = s.processors;
  version = string_bytes s.version;
  build = option_map string_bytes s.build;
  cpu_model = option_map string_bytes s.cpu_model;
  microcode = option_map string_bytes s.microcode;
}

abbrev pub process_of : CrashProcess → ProcessFacts
process_of p = record {
  system = option_map system_of p.system;
  id = p.id;
  parent = p.parent;
  uptime = p.uptime;
  resident = p.resident;
  release = option_map release_of p.release;
  command_line = option_map string_bytes p.command_line;
  comments = comments_of p.comments;
  handle_kinds = map kind_of p.handle_kinds.items;
}

-- ---- the value of the streams

-- the platform by whose rules the version is written: for Android that of Linux, MD_OS_LINUX
abbrev version_platform : Os → ℕ → ℕ
version_platform Android platform = 0x8201
version_platform _ platform = platform

-- the version of a system, and its build
abbrev pub version_and_build : System → List ℕ × Option (List ℕ)
version_and_build s = os_parts_of s.raw.major_version s.raw.minor_version s.raw.build_number
    (version_platform s.os s.raw.platform_id) s.csd_version

-- the description of the processor by the system's information, else by that of Linux
abbrev pub cpu_model : System → Result (List ℕ) Error → Option (List ℕ)
cpu_model s cpu = option_or s.cpu_info (cpu_text (codes "model name") cpu)

-- a system by its information, where that can be read, and by Linux's description of the processors
abbrev pub system_in : Result System Error → Result (List ℕ) Error → Option SystemValue
system_in system cpu = option_map (λ s. record {
  os = s.os;
  cpu = s.cpu;
  processors = s.raw.number_of_processors;
  version = (version_and_build s).0;
  build = (version_and_build s).1;
  cpu_model = cpu_model s cpu;
  microcode = cpu_text (codes "microcode") cpu;
}) (result_ok system)

-- the id of a process by Linux's status, a copy of that of one of its threads, as of the one that crashed: `Tgid`, since
-- `Pid` is the id of that thread (proc_pid_status(5)); else `Pid`
abbrev pub status_id : Result (List ℕ) Error → Option ℕ
status_id status =
    option_or (status_number (codes "Tgid") status) (status_number (codes "Pid") status)

-- the id of the process by the misc information, else by Linux's status
abbrev pub id_in : Result RawMiscInfo Error → Result (List ℕ) Error → Option ℕ
id_in misc status = option_or (option_and_then process_id (result_ok misc)) (status_id status)

-- for how many seconds the process had run: from its beginning, by the misc information, until the dump was
-- written. None where the beginning isn't there, is 0, or comes after the dump
abbrev pub uptime_in : ℕ → Result RawMiscInfo Error → Option ℕ
uptime_in stamp misc = option_and_then (λ begun.
    if begun == 0 then None else (if nat_le begun stamp then Some (stamp - begun) else None))
    (option_and_then process_create_time (result_ok misc))

-- the process of a dump with these contents
abbrev pub process_in : Dump → ContentsValue → ProcessFacts
process_in d c = record {
  system = system_in c.system.system c.system.cpu_info;
  id = id_in c.system.misc c.process.status;
  parent = status_number (codes "PPid") c.process.status;
  uptime = uptime_in d.header.time_date_stamp c.system.misc;
  resident = status_size (codes "VmRSS") c.process.status;
  release = release_in c.system.lsb_release;
  command_line = command_line_in d;
  comments = comments_in d;
  handle_kinds = kinds_in c.process.handles;
}
