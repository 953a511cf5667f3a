-- The last lines of a report: where and why a process crashed.
use Rattle.std.specs.Prelude.{ℕ, List, [], ◌∷◌, ◌++◌, codes, Option, Some, None}
use Rattle.std.specs.List.{concat}
use Rattle.std.specs.Option.{option_and_then}
use Rattle.std.specs.Result.{result_ok}
use Rattle.minidump_bytes.specs.Piece.{hex}
use Rattle.minidump_reason.specs.declared.reason.CrashReason.{CrashReason}
use Rattle.minidump_reason.specs.Names.{Lists}
use Rattle.minidump_reason.specs.Reason.{crash_reason}
use Rattle.minidump_reason.specs.ReasonText.{reason_text}
use Rattle.minidump_system.specs.declared.cpu.Cpu.{Cpu}
use Rattle.minidump_system.specs.System.{System}
use Rattle.minidump.specs.declared.crash.CrashValues.{CrashValues}
use Rattle.minidump.specs.Dump.{Dump, dump_system, stream_of}
use Rattle.minidump.specs.Exception.{Exception, crash_address}
use Rattle.minidump.specs.Memory.{memories_of_dump}
use Rattle.minidump.specs.Promise.{exception_stream, thread_list_stream}
use Rattle.minidump.specs.Thread.{error_in, last_error_address, last_with}

-- the last error of the last thread of an id, where the threads and the memory can be read
abbrev pub last_error_of : Lists → Dump → Cpu → ℕ → Option CrashReason
last_error_of names dump cpu id =
    option_and_then (λ threads. option_and_then (λ thread. option_and_then
    (λ memory. error_in names memory (last_error_address cpu thread.raw.teb))
    (memories_of_dump dump)) (last_with id threads)) (result_ok (stream_of thread_list_stream dump))

-- words and a number, as a line
unfoldable pub number_line : List ℕ → ℕ → List ℕ
number_line words n = concat (words ∷ hex n ∷ codes "\n" ∷ [])

-- words and a reason, as a line
unfoldable pub reason_line : List ℕ → Lists → CrashReason → List ℕ
reason_line words names reason = words ++ (reason_text names reason ++ codes "\n")

-- the line of the last error of the crashed thread, where it has one
abbrev pub last_error_line : Lists → Option CrashReason → List ℕ
last_error_line names None = []
last_error_line names (Some reason) = reason_line (codes "last_error = ") names reason

-- the address and the reason of a crash, and the last error of its thread, where it has one
abbrev pub values_text : Lists → ℕ → CrashReason → Option CrashReason → List ℕ
values_text names address reason found =
    number_line (codes "crash_address = ") address
    ++ (reason_line (codes "crash_reason = ") names reason ++ last_error_line names found)

-- the same of values that may be absent
abbrev pub values_lines : Lists → Option CrashValues → List ℕ
values_lines names None = []
values_lines names (Some v) = values_text names v.address v.reason v.last_error

-- the lines that take the system information
abbrev pub system_lines : Lists → Dump → Exception → Option System → List ℕ
system_lines names dump e None = []
system_lines names dump e (Some s) =
    values_text names (crash_address s.os s.cpu e.raw.exception_record)
    (crash_reason names s.os s.cpu e.raw.exception_record)
    (last_error_of names dump s.cpu e.thread_id)

-- the lines on the crash at the end of the report: none without an exception
abbrev pub crash_lines : Lists → Dump → Option Exception → List ℕ
crash_lines names dump None = []
crash_lines names dump (Some e) =
    number_line (codes "crash_thread = ") e.thread_id
    ++ system_lines names dump e (dump_system dump)

-- the lines of a dump's exception, where it can be read
unfoldable pub crash_text : Lists → Dump → List ℕ
crash_text names dump = crash_lines names dump (result_ok (stream_of exception_stream dump))
