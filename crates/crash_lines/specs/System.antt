-- The lines of the system, of the date of the dump, of the program, and of the process.
use Rattle.std.specs.Prelude.{ℕ, ◌==◌, ◌++◌, List, [], ◌∷◌, codes, if◌then◌else◌, Option, slice_get}
use Rattle.std.specs.Fmt.{decimal}
use Rattle.std.specs.List.{concat}
use Rattle.std.specs.Option.{option_map}
use Rattle.minidump.specs.Below.Records.BootArgs.{BootArgs}
use Rattle.minidump.specs.declared.MinidumpBreakpadInfo.{MinidumpBreakpadInfo}
use Rattle.minidump.specs.declared.system_info.Os.{Os}
use Rattle.minidump.specs.declared.system_info.Os.TheVariants.{Unknown}
use Rattle.minidump.specs.Below.Bytes.Piece.{hex}
use Rattle.minidump.specs.Below.System.Cpu.{cpu_name}
use Rattle.minidump.specs.Below.System.Dates.{date_text_of}
use Rattle.minidump.specs.Below.System.Os.{os_name}
use Rattle.crash.specs.Crash.{CrashValue}
use Rattle.crash_process.specs.Process.{SystemValue}
use Rattle.crash_process.specs.Release.{ReleaseValue}
use Rattle.crash_lines.specs.Lines.{if_ok, if_some, table}
use Rattle.crash_lines.specs.Words.{decimal_if, id_if, missing_lines, or_empty, text_after, text_if}

-- the name of an operating system, with its number where it is unknown
abbrev pub system_name : Os → List ℕ
system_name (Unknown number) = concat (codes "unknown " ∷ hex number ∷ [])
system_name os = os_name os

-- a system: its kind, its version and its build, and its processors, with the description of a
-- processor and the version of the microcode
unfoldable pub system_lines : SystemValue → List (List ℕ)
system_lines s = table (
    (codes "system  " ∷ system_name s.os ∷ codes " " ∷ s.version
    ∷ text_after (codes " ") (or_empty s.build) ∷ codes " on " ∷ cpu_name s.cpu
    ∷ codes ", processors: " ∷ decimal s.processors ∷ [])
    ∷ (text_if (codes "processor ") s.cpu_model [] ∷ [])
    ∷ (text_if (codes "microcode ") s.microcode [] ∷ [])
    ∷ [])

-- the line of a release of Linux: its name, its number, its code name and its description, those
-- that are there
unfoldable pub release_line : ReleaseValue → List ℕ
release_line r = concat (codes "release"
    ∷ text_after (codes " ") (or_empty r.id) ∷ text_after (codes " ") (or_empty r.release)
    ∷ text_after (codes " ") (or_empty r.codename)
    ∷ text_after (codes " ") (or_empty r.description) ∷ [])

-- the arguments with which macOS was booted, where they are there
unfoldable pub boot_lines : BootArgs → List (List ℕ)
boot_lines b = table ((text_if (codes "boot arguments ") b.text [] ∷ []) ∷ [])

-- when the dump was written, by the time stamp of its header; 0 says nothing
unfoldable pub date_lines : ℕ → List (List ℕ)
date_lines stamp =
    if stamp == 0 then [] else concat (codes "dumped  " ∷ date_text_of stamp ∷ []) ∷ []

-- the threads that requested and wrote the dump, by Breakpad's information
unfoldable pub breakpad_lines : MinidumpBreakpadInfo → List (List ℕ)
breakpad_lines b = table (
    (id_if (codes "dump requested by thread ") b.requesting_thread_id ∷ [])
    ∷ (id_if (codes "dump written by thread ") b.dump_thread_id ∷ [])
    ∷ [])

-- the path of the program, which is the first of the modules
abbrev pub program_in : CrashValue → Option (List ℕ)
program_in c = option_map (λ m. m.path) (slice_get c.modules.loaded 0)

-- the program, and the process: its id and that of its parent, for how long it ran, how much of it was
-- in memory, and its command line; and the comments of the dump
unfoldable pub process_lines : CrashValue → List (List ℕ)
process_lines c = let p = c.process in table (
    (text_if (codes "program ") (program_in c) [] ∷ [])
    ∷ (id_if (codes "process ") p.id ∷ [])
    ∷ (id_if (codes "parent  ") p.parent ∷ [])
    ∷ (decimal_if (codes "uptime  ") p.uptime (codes " s") ∷ [])
    ∷ (decimal_if (codes "resident ") p.resident (codes " bytes") ∷ [])
    ∷ (text_if (codes "command ") p.command_line [] ∷ [])
    ∷ (text_if (codes "comment ") p.comments.narrow [] ∷ [])
    ∷ (text_if (codes "wide comment ") p.comments.wide [] ∷ [])
    ∷ [])

-- all of them, or that the system information is missing
abbrev pub head_lines : CrashValue → List (List ℕ)
head_lines c = if_some system_lines c.process.system
    ++ (missing_lines (codes "no system information") c.contents.system.system
    ++ (if_some (λ r. release_line r ∷ []) c.process.release
    ++ (if_ok boot_lines c.contents.messages.mac_boot_args ++ (date_lines c.directory.written
    ++ (if_ok breakpad_lines c.contents.system.breakpad ++ process_lines c)))))
