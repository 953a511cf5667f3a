-- What is there in a dump and can't be read, whether anything else stands in for it or not.
use Rattle.std.specs.Prelude.{ℕ, ◌+◌, ◌-◌, ◌==◌, ◌++◌, Bool, false, true, is_none, List, [], ◌∷◌, length, take}
use Rattle.std.specs.Prelude.{Option, Some, None, Result, Ok, Err, if◌then◌else◌}
use Rattle.std.specs.List.{filter_map, sum_by}
use Rattle.std.specs.Option.{option_map, option_map_or}
use Rattle.std.specs.Result.{result_ok}
use Rattle.minidump.specs.declared.Error.{Error}
use Rattle.minidump.specs.declared.format.MINIDUMP_STREAM_TYPE.TheVariants.{CommentStreamW}
use Rattle.minidump.specs.declared.format.MINIDUMP_ASSERTION_INFO.{MINIDUMP_ASSERTION_INFO}
use Rattle.minidump.specs.Below.Bytes.Text16.{text_before_nul}
use Rattle.minidump.specs.Below.Format.StreamType.{number_of}
use Rattle.minidump.specs.Below.Records.BootArgs.{BootArgs}
use Rattle.minidump.specs.Below.Records.Descriptor.{object_name_rva, type_name_rva}
use Rattle.minidump.specs.Below.Records.Handles.{Handle, or_zero}
use Rattle.minidump.specs.Below.Records.MacCrashInfo.{MacRecords}
use Rattle.minidump.specs.Below.Records.NamedText.{lacks_text}
use Rattle.minidump.specs.Below.System.System.{System}
use Rattle.minidump.specs.Exception.{Exception}
use Rattle.minidump.specs.Promise.{assertion_stream, handle_data_stream, mac_bootargs_stream}
use Rattle.minidump.specs.Promise.{mac_crash_info_stream, system_info_stream, thread_names_stream}
use Rattle.crash_threads.specs.declared.contexts.ContextProblem.{ContextProblem}
use Rattle.crash_threads.specs.declared.contexts.ContextProblem.TheVariants.{Outside}
use Rattle.crash.specs.declared.damage.Damage.{Damage}
use Rattle.crash.specs.declared.damage.Damage.TheVariants as damage
use Rattle.crash_process.specs.declared.directory.StreamEntry.{StreamEntry}
use Rattle.crash_threads.specs.Cause.{CauseValue, ExceptionValue}
use Rattle.crash_streams.specs.Contents.{ContentsValue}
use Rattle.crash_process.specs.ProcessTexts.{CommentsValue}
use Rattle.crash_process.specs.Directory.{DirectoryValue}
use Rattle.crash_process.specs.Process.{ProcessFacts}
use Rattle.crash_threads.specs.Threads.{ThreadValue, ThreadsValue}

-- ---- texts: none is where an entry names one by its RVA, or a surrogate of its UTF-16 lacks its partner

-- 1 where a test holds, else 0
abbrev pub one_if : Bool → ℕ
one_if holds = if holds then 1 else 0

-- of the system information: the text of its service pack
abbrev pub system_lacking : Result System Error → ℕ
system_lacking found =
    option_map_or (λ s. one_if (lacks_text s.raw.csd_version_rva s.csd_version)) (result_ok found) 0

-- of a handle: the name of its type, and its own
abbrev pub names_lacking : Handle → ℕ
names_lacking h = one_if (lacks_text (or_zero (type_name_rva h.raw)) h.type_name)
    + one_if (lacks_text (or_zero (object_name_rva h.raw)) h.object_name)

-- of all handles
abbrev pub handles_lacking : Result (List Handle) Error → ℕ
handles_lacking found =
    option_map_or (λ handles. sum_by names_lacking handles) (result_ok found) 0

-- of an assertion: its expression, its function and its file
abbrev pub assertion_lacking : Result MINIDUMP_ASSERTION_INFO Error → ℕ
assertion_lacking found = option_map_or (λ a. one_if (is_none (text_before_nul a.expression))
    + one_if (is_none (text_before_nul a.function)) + one_if (is_none (text_before_nul a.file)))
    (result_ok found) 0

-- of macOS's boot arguments: their text
abbrev pub boot_args_lacking : Result BootArgs Error → ℕ
boot_args_lacking found =
    option_map_or (λ b. one_if (lacks_text b.raw.bootargs b.text)) (result_ok found) 0

-- ---- damage

-- a stream that can't be read
abbrev pub stream_damage : StreamEntry → Option Damage
stream_damage e = option_map (λ error. damage.Stream e.number error) e.error

-- damage, where there is any
abbrev pub if_any : ℕ → Damage → Option Damage
if_any count d = if count == 0 then None else Some d

-- the texts of a stream that can't be read, by its type, where there are any
abbrev pub texts_damage : ℕ → ℕ → Option Damage
texts_damage number count = if_any count (damage.Texts number count)

-- how many records of macOS's crash information can't be read
abbrev pub records_lacking : Result MacRecords Error → ℕ
records_lacking found = option_map_or (λ all. all.unreadable) (result_ok found) 0

-- what is told by its number: entries and regions outside the file, modules without addresses, and
-- texts and records by their streams, ascending by type
abbrev pub counted_damage : ContentsValue → DirectoryValue → CommentsValue → List (Option Damage)
counted_damage c directory comments =
    if_any directory.entries_outside (damage.Entries directory.entries_outside)
    ∷ if_any c.space.regions_outside (damage.Regions c.space.regions_outside)
    ∷ if_any c.space.without_addresses (damage.Modules c.space.without_addresses)
    ∷ texts_damage system_info_stream.stream_type (system_lacking c.system.system)
    ∷ texts_damage (number_of CommentStreamW) (one_if comments.is_wide_damaged)
    ∷ texts_damage handle_data_stream.stream_type (handles_lacking c.process.handles)
    ∷ texts_damage thread_names_stream.stream_type
    (option_map_or (λ all. all.unreadable) (result_ok c.threads.names) 0)
    ∷ texts_damage assertion_stream.stream_type (assertion_lacking c.messages.assertion)
    ∷ if_any (records_lacking c.messages.mac_crash_info)
    (damage.Records mac_crash_info_stream.stream_type (records_lacking c.messages.mac_crash_info))
    ∷ texts_damage mac_bootargs_stream.stream_type (boot_args_lacking c.messages.mac_boot_args)
    ∷ []

-- an exception that can't be read
abbrev pub exception_error : Result ExceptionValue Error → Option Damage
exception_error (Ok e) = None
exception_error (Err error) = Some (damage.Exception error)

-- how many parameters the record of an exception counts beyond the 15 that it has room for
abbrev parameters_lacking : Exception → ℕ
parameters_lacking e = e.raw.exception_record.number_parameters - 15

-- these, where there are any
abbrev pub parameters_damage : Result Exception Error → Option Damage
parameters_damage (Ok e) =
    if_any (parameters_lacking e) (damage.Parameters e.thread_id (parameters_lacking e))
parameters_damage (Err _) = None

-- the bytes of a context are not in the file
abbrev pub is_outside : Option ContextProblem → Bool
is_outside (Some Outside) = true
is_outside _ = false

-- the context of an exception that is outside the file
abbrev pub exception_damage : Result ExceptionValue Error → Option Damage
exception_damage (Ok e) =
    if is_outside e.context_problem then Some (damage.ExceptionContext e.thread) else None
exception_damage (Err _) = None

-- the own context of a thread that is outside the file
abbrev pub context_damage : ThreadValue → Option Damage
context_damage t =
    if is_outside t.context_problem then Some (damage.ThreadContext t.id) else None

-- the stack of a thread that is outside the file
abbrev pub stack_damage : ThreadValue → Option Damage
stack_damage t = if t.is_stack_outside then Some (damage.Stack t.id) else None

-- all of them: streams, what is told by its number, exceptions before the last, whose error is that of the
-- stream, their parameters and contexts, contexts of threads, and stacks
abbrev pub damage_in : ContentsValue → DirectoryValue → ProcessFacts → CauseValue → ThreadsValue
    → List Damage
damage_in c directory process cause threads = filter_map stream_damage directory.entries
    ++ filter_map (λ d. d) (counted_damage c directory process.comments)
    ++ filter_map exception_error (take (length cause.exceptions - 1) cause.exceptions)
    ++ filter_map parameters_damage c.threads.exceptions ++ filter_map exception_damage cause.exceptions
    ++ filter_map context_damage threads.threads ++ filter_map stack_damage threads.threads
