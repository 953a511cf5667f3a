-- The lines of the crash, and of the exceptions where there are several.
use Rattle.std.specs.Prelude.{ℕ, ◌++◌, ◌==◌, List, [], ◌∷◌, Option, Some, None, codes}
use Rattle.std.specs.Prelude.{if◌then◌else◌, is_none, length, map, nat_lt, Result, Ok, Err}
use Rattle.std.specs.Fmt.{decimal}
use Rattle.std.specs.List.{concat, enumerate_from, flat_map}
use Rattle.minidump.specs.Below.Bytes.Piece.{hex}
use Rattle.crash_streams.specs.declared.records.Access.{Access}
use Rattle.crash_streams.specs.declared.records.Access.TheVariants.{Execute, Read, Write}
use Rattle.crash_streams.specs.declared.records.Sender.{Sender}
use Rattle.crash_threads.specs.declared.contexts.ContextProblem.{ContextProblem}
use Rattle.crash_threads.specs.declared.contexts.ContextProblem.TheVariants.{NoSystem, NotAccepted}
use Rattle.crash_threads.specs.declared.contexts.ContextProblem.TheVariants.{Outside}
use Rattle.crash_threads.specs.Cause.{ExceptionValue}
use Rattle.crash_streams.specs.Records.{signal_code_name}
use Rattle.minidump.specs.declared.Error.{Error}
use Rattle.crash_threads.specs.Counting.{counted}
use Rattle.crash.specs.Crash.{CrashValue}
use Rattle.crash_lines.specs.Words.{decimal_if, error_words, hex_unless, id_words, or_empty}
use Rattle.crash_lines.specs.Words.{text_after, text_if, words_or}
use Rattle.crash_lines.specs.Lines.{if_some, table}
use Rattle.crash_lines.specs.Point.{address_line, point_lines, registers_lines}

-- ---- what is known of an exception beside its code and where it happened

-- how memory was accessed
abbrev pub access_words : Option Access → List ℕ
access_words (Some Read) = codes ", access read"
access_words (Some Write) = codes ", access write"
access_words (Some Execute) = codes ", access execute"
access_words None = []

-- the process that sent a signal, by its id
abbrev pub process_words : Option ℕ → List ℕ
process_words (Some id) = codes ", sent by process " ++ id_words id
process_words None = codes ", sent by an unknown process"

-- the process, its user, and how it was sent, by the name of its `si_code`
abbrev pub sender_words : Option Sender → List ℕ
sender_words (Some s) = process_words s.process
    ++ (decimal_if (codes ", user ") s.user [] ++ concat (codes ", " ∷ signal_code_name s.code ∷ []))
sender_words None = []

-- a parameter after another one
abbrev pub parameter_words : ℕ → List ℕ
parameter_words parameter = concat (codes ", " ∷ hex parameter ∷ [])

-- the parameters, where there are some
abbrev pub parameters_words : List ℕ → List ℕ
parameters_words [] = []
parameters_words (first ∷ others) = concat (codes ", parameters " ∷ hex first ∷ [])
    ++ flat_map parameter_words others

-- why the context of an exception gives no registers: it is outside the file, or it isn't accepted, and
-- then its size, where that isn't 0. That the system is unknown is said elsewhere
abbrev pub context_words : Option ContextProblem → List ℕ
context_words (Some Outside) = codes ", its context is outside the file"
context_words (Some (NotAccepted size)) = if size == 0 then codes ", no context that can be read"
    else concat (codes ", no context that can be read, " ∷ decimal size ∷ codes " bytes" ∷ [])
context_words (Some NoSystem) = []
context_words None = []

-- what the record says beside its code and where it happened, and why the context can't be read
abbrev pub record_text : ExceptionValue → List ℕ
record_text e = hex_unless 0 (codes ", flags ") (Some e.flags)
    ++ (hex_unless 0 (codes ", nested record at ") (Some e.nested)
    ++ (access_words e.access ++ (sender_words e.sender
    ++ (parameters_words e.parameters ++ context_words e.context_problem))))

-- ---- the crash

-- the crash, by the exception that counts: the thread that crashed, the address of the crash, the reason,
-- the code with the record, LLDB's description, the registers, and where that thread stands
unfoldable pub counted_lines : CrashValue → ExceptionValue → List (List ℕ)
counted_lines c e = concat (codes "crashed thread " ∷ id_words e.thread ∷ [])
    ∷ (if_some (λ a. address_line c [] (codes "address") [] a ∷ []) c.cause.address
    ++ (table (
    (text_if (codes "reason  ") e.reason [] ∷ [])
    ∷ (codes "code    " ∷ hex e.code ∷ codes " at " ∷ hex e.at ∷ record_text e ∷ [])
    ∷ (text_if (codes "description ") e.description [] ∷ [])
    ∷ [])
    ++ (registers_lines c ++ point_lines c)))

-- ---- the exceptions

-- the line of an exception with its number: its thread, its code, where it happened, its address
-- where that is another or there is none, the reason, LLDB's description, and what else is known of
-- it; or why it can't be read
unfoldable pub exception_line : ℕ → Result ExceptionValue Error → List ℕ
exception_line number (Ok e) = concat (codes "    #" ∷ decimal number
    ∷ codes " thread " ∷ id_words e.thread ∷ codes ", code " ∷ hex e.code ∷ codes " at " ∷ hex e.at
    ∷ hex_unless e.at (codes ", address ") e.address
    ∷ words_or (is_none e.address) (codes ", no address") []
    ∷ text_after (codes ", ") (or_empty e.reason) ∷ text_if (codes ", ") e.description []
    ∷ record_text e ∷ [])
exception_line number (Err error) = concat (codes "    #" ∷ decimal number
    ∷ codes " can't be read" ∷ error_words (Some error) ∷ [])

-- each of them
abbrev pub each_exception : List (Result ExceptionValue Error) → List (List ℕ)
each_exception exceptions = map (λ p. exception_line p.0 p.1) (enumerate_from 0 exceptions)

-- how many there are, and which counts
unfoldable pub several_row : ℕ → Option ℕ → List ℕ
several_row count (Some counts) = concat (codes "exceptions " ∷ decimal count
    ∷ codes ", of which number " ∷ decimal counts ∷ codes " counts" ∷ [])
several_row count None = concat (codes "exceptions " ∷ decimal count ∷ [])

-- the exceptions, where there are several
abbrev pub several_lines : List (Result ExceptionValue Error) → Option ℕ → List (List ℕ)
several_lines exceptions counts = if nat_lt 1 (length exceptions)
    then several_row (length exceptions) counts ∷ each_exception exceptions else []

-- ---- all of it

-- that there is no exception
abbrev pub none_lines : List (Result ExceptionValue Error) → List (List ℕ)
none_lines [] = codes "no exception" ∷ []
none_lines (_ ∷ _) = []

-- the crash, and the exceptions of the dump
abbrev pub crash_lines : CrashValue → List (List ℕ)
crash_lines c = if_some (counted_lines c) (counted c.cause.exceptions c.cause.counts)
    ++ several_lines c.cause.exceptions c.cause.counts
