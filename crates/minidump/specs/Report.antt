-- The report on a minidump: what each type of stream adds to it, and its whole text.
use Rattle.std.specs.Prelude.{◌≡◌, ℕ, List, [], ◌∷◌, ◌++◌, codes, false, true, Option, Result, Ok, Err}
use Rattle.std.specs.List.{concat, flat_map}
use Rattle.minidump_bytes.specs.declared.told.Told.{Told}
use Rattle.minidump_format.specs.declared.error.Error.{Error}
use Rattle.minidump_format.specs.declared.error.Error.TheVariants.{StreamNotFound}
use Rattle.minidump_format.specs.Error.{name_of_error}
use Rattle.minidump_format.specs.Print.{Prints}
use Rattle.minidump_reason.specs.Names.{Lists}
use Rattle.minidump_system.specs.StreamSpec.{StreamSpec}
use Rattle.minidump.specs.Crash.{crash_text}
use Rattle.minidump.specs.Dump.{Dump, dump_in, dump_system, stream_of}
use Rattle.minidump.specs.Memory.{memories_of_dump}
use Rattle.minidump.specs.Text.{dump_text, stream_type_name}
use Rattle.minidump.specs.declared.report.Section.{Section}
use Rattle.minidump.specs.declared.report.Section.TheVariants as part
use Rattle.minidump.specs.Promise.{assertion_stream, breakpad_info_stream, crashpad_info_stream}
use Rattle.minidump.specs.Promise.{exception_stream, handle_data_stream, linux_cpu_info_stream}
use Rattle.minidump.specs.Promise.{linux_environ_stream, linux_lsb_release_stream, linux_maps_stream}
use Rattle.minidump.specs.Promise.{linux_proc_limits_stream, linux_proc_status_stream}
use Rattle.minidump.specs.Promise.{mac_bootargs_stream, mac_crash_info_stream, memory64_list_stream}
use Rattle.minidump.specs.Promise.{memory_info_list_stream, memory_list_stream}
use Rattle.minidump.specs.Promise.{misc_info_stream, module_list_stream, soft_errors_stream}
use Rattle.minidump.specs.Promise.{stability_report_stream, system_info_stream}
use Rattle.minidump.specs.Promise.{thread_info_list_stream, thread_list_stream, thread_names_stream}
use Rattle.minidump.specs.Promise.{unloaded_module_list_stream}
use Rattle.minidump.specs.Exception.{exception_text}
use Rattle.minidump.specs.ThreadText.{thread_list_text}
use Rattle.minidump_memory.specs.InfoText.{memory_info_list_text, linux_maps_text}
use Rattle.minidump_memory.specs.MemoryText.{memory64_list_text, memory_list_text}
use Rattle.minidump_modules.specs.ModuleText.{module_list_text, unloaded_module_list_text}
use Rattle.minidump_records.specs.Assertion.{assertion_text}
use Rattle.minidump_records.specs.BootArgs.{mac_bootargs_text}
use Rattle.minidump_records.specs.BreakpadInfo.{breakpad_info_text}
use Rattle.minidump_records.specs.Crashpad.Text.{crashpad_info_text}
use Rattle.minidump_records.specs.Handles.{handle_data_text}
use Rattle.minidump_records.specs.Linux.Text.{linux_cpu_info_text, linux_proc_status_text}
use Rattle.minidump_records.specs.Linux.Text.{linux_lsb_release_text, linux_environ_text}
use Rattle.minidump_records.specs.Linux.Text.{linux_proc_limits_text}
use Rattle.minidump_records.specs.MacCrashInfo.Text.{mac_crash_info_text}
use Rattle.minidump_records.specs.SoftErrors.{soft_errors_text}
use Rattle.minidump_records.specs.ThreadInfo.{thread_info_list_text}
use Rattle.minidump_records.specs.ThreadNames.{thread_names_text}
use Rattle.minidump_stability.specs.ReportText.{stability_report_text}
use Rattle.minidump_system.specs.MiscInfo.{misc_info_text}
use Rattle.minidump_system.specs.SystemInfo.{system_info_text}

-- the line of a stream's error: the name of its type, and that of the error
unfoldable pub error_line : List ℕ → Error → List ℕ
error_line name e = concat (name ∷ codes ": " ∷ name_of_error e ∷ codes "\n" ∷ [])

-- what a stream without a value adds to the report: nothing where it is absent, else the line of
-- its error
abbrev pub unread_text : List ℕ → Error → List ℕ
unread_text name StreamNotFound = []
unread_text name e = error_line name e

-- what a stream adds to the report, by the text of its value
abbrev pub text_or_error : {V : Type 0} → List ℕ → (V → List ℕ) → Result V Error → List ℕ
text_or_error name text (Ok value) = text value
text_or_error name text (Err e) = unread_text name e

-- what the stream of a table adds to the report on a dump
abbrev pub section : {S V : Type 0} → StreamSpec S V → (V → List ℕ) → Dump → List ℕ
section spec text dump = text_or_error (stream_type_name spec.stream_type) text (stream_of spec dump)

-- a text is what the stream of a table adds to the report if it has no value
abbrev pub IsUnreadText : {S V : Type 0} → StreamSpec S V → Dump → List ℕ → Type 0
IsUnreadText spec dump text =
    (e : Error) → stream_of spec dump ≡ Err e
    → text ≡ unread_text (stream_type_name spec.stream_type) e

-- what each type of stream adds: threads are not brief, and have the memory that `get_memory`
-- returns; both lists of memory are brief
abbrev pub section_text : Dump → Section → List ℕ
section_text dump part.SystemInfoStream = section system_info_stream system_info_text dump
section_text dump part.MiscInfoStream = section misc_info_stream misc_info_text dump
section_text dump part.ExceptionStream = section exception_stream (exception_text (dump_system dump)) dump
section_text dump part.ThreadListStream =
    section thread_list_stream (thread_list_text (memories_of_dump dump) (dump_system dump) false) dump
section_text dump part.ThreadNamesStream = section thread_names_stream (λ all. thread_names_text all.names) dump
section_text dump part.ThreadInfoListStream = section thread_info_list_stream thread_info_list_text dump
section_text dump part.ModuleListStream = section module_list_stream (λ listed. module_list_text listed.modules) dump
section_text dump part.UnloadedModuleListStream = section unloaded_module_list_stream unloaded_module_list_text dump
section_text dump part.Memory64ListStream = section memory64_list_stream (memory64_list_text true) dump
section_text dump part.MemoryListStream = section memory_list_stream (λ plain. memory_list_text true plain.regions) dump
section_text dump part.MemoryInfoListStream = section memory_info_list_stream memory_info_list_text dump
section_text dump part.LinuxMaps = section linux_maps_stream linux_maps_text dump
section_text dump part.HandleDataStream = section handle_data_stream handle_data_text dump
section_text dump part.BreakpadInfoStream = section breakpad_info_stream breakpad_info_text dump
section_text dump part.AssertionInfoStream = section assertion_stream assertion_text dump
section_text dump part.CrashpadInfoStream = section crashpad_info_stream crashpad_info_text dump
section_text dump part.MozMacosCrashInfoStream = section mac_crash_info_stream (λ all. mac_crash_info_text all.records) dump
section_text dump part.MozMacosBootargsStream = section mac_bootargs_stream mac_bootargs_text dump
section_text dump part.LinuxCpuInfo = section linux_cpu_info_stream linux_cpu_info_text dump
section_text dump part.LinuxProcStatus = section linux_proc_status_stream linux_proc_status_text dump
section_text dump part.LinuxLsbRelease = section linux_lsb_release_stream linux_lsb_release_text dump
section_text dump part.LinuxEnviron = section linux_environ_stream linux_environ_text dump
section_text dump part.MozLinuxLimits = section linux_proc_limits_stream linux_proc_limits_text dump
section_text dump part.MozSoftErrors = section soft_errors_stream soft_errors_text dump
section_text dump part.StabilityReportStream = section stability_report_stream stability_report_text dump

-- the types of stream in the order of the report
abbrev pub sections : List Section
sections =
    part.SystemInfoStream ∷ part.MiscInfoStream ∷ part.ExceptionStream
    ∷ part.ThreadListStream ∷ part.ThreadNamesStream ∷ part.ThreadInfoListStream
    ∷ part.ModuleListStream ∷ part.UnloadedModuleListStream
    ∷ part.Memory64ListStream ∷ part.MemoryListStream ∷ part.MemoryInfoListStream ∷ part.LinuxMaps
    ∷ part.HandleDataStream ∷ part.BreakpadInfoStream ∷ part.AssertionInfoStream ∷ part.CrashpadInfoStream
    ∷ part.MozMacosCrashInfoStream ∷ part.MozMacosBootargsStream
    ∷ part.LinuxCpuInfo ∷ part.LinuxProcStatus ∷ part.LinuxLsbRelease ∷ part.LinuxEnviron
    ∷ part.MozLinuxLimits ∷ part.MozSoftErrors ∷ part.StabilityReportStream ∷ []

-- what they add, in that order
unfoldable pub sections_text : Dump → List ℕ
sections_text dump = flat_map (section_text dump) sections

-- the report on a dump: its header and directory, its streams, and where and why the process
-- crashed
abbrev pub report_text : Lists → Dump → List ℕ
report_text names dump = dump_text dump ++ (sections_text dump ++ crash_text names dump)

-- the report on a dump is printed; or an error is returned, where the bytes are no dump, and the
-- writer is left as it was
abbrev pub ReportsOn : {D : Type 0} → (D → Option (List ℕ)) → Told D → Told D → Lists
    → Result (Unit {0}) Error → Result Dump Error → Type 0
ReportsOn contents old new names result (Ok dump) = Prints contents old new (report_text names dump) result
ReportsOn contents old new names result (Err e) = (new ≡ old) × (result ≡ Err e)

-- What writing the report on these bytes does. They are a minidump: its report is printed. They are
-- none: the error is theirs, and nothing is written.
abbrev pub Reports : {D : Type 0} → (D → Option (List ℕ)) → Told D → Told D → Lists → List ℕ
    → Result (Unit {0}) Error → Type 0
Reports contents old new names bytes result = ReportsOn contents old new names result (dump_in bytes)
