-- Where and why a process crashed: its exceptions, which of them counts, and what is known of the
-- address of the crash.
use Rattle.std.specs.Prelude.{ℕ, ◌==◌, ◌||◌, ◌&&◌, Bool, false, List, map, Option, Some, None, Result}
use Rattle.std.specs.Prelude.{◌++◌, codes, if◌then◌else◌, string_bytes, unwrap_or}
use Rattle.std.specs.Fmt.{decimal}
use Rattle.std.specs.Option.{option_and_then, option_map, option_map_or}
use Rattle.minidump.specs.declared.Error.{Error}
use Rattle.minidump.specs.declared.format.MINIDUMP_EXCEPTION.{MINIDUMP_EXCEPTION}
use Rattle.minidump.specs.Below.Contexts.Context.{map_ok}
use Rattle.minidump.specs.Below.MemoryLists.UnifiedInfo.{info_regions}
use Rattle.minidump.specs.Below.Reasons.Names.{Lists}
use Rattle.minidump.specs.Below.Reasons.Reason.{crash_reason}
use Rattle.minidump.specs.Below.Reasons.ReasonText.{reason_text}
use Rattle.minidump.specs.Below.System.System.{System}
use Rattle.minidump.specs.Exception.{Exception}
use Rattle.stack_walk.specs.Frames.{instruction_pointer_in}
use Rattle.stack_walk.specs.Lookups.{has_code}
use Rattle.crash_threads.specs.declared.addresses.AddressFacts.{AddressFacts}
use Rattle.crash_threads.specs.declared.cause.CrashCause.{CrashCause}
use Rattle.crash_threads.specs.declared.cause.CrashException.{CrashException}
use Rattle.crash_threads.specs.declared.contexts.ContextProblem.{ContextProblem}
use Rattle.crash_streams.specs.declared.records.Access.{Access}
use Rattle.crash_streams.specs.declared.records.Sender.{Sender}
use Rattle.crash_threads.specs.Addresses.{facts_of}
use Rattle.crash_streams.specs.Contents.{ContentsValue, has_signal_codes}
use Rattle.crash_threads.specs.Contexts.{any_context, named_bytes, problem_in, system_of}
use Rattle.crash_threads.specs.Counting.{counted, counting}
use Rattle.crash_streams.specs.Records.{access_in, address_on, description_in, lacks_address}
use Rattle.crash_streams.specs.Records.{ending_signal, mac_signal_name, may_be_instruction}
use Rattle.crash_streams.specs.Records.{parameters_in, sender_in}

-- an exception: its thread, its code and flags, where it happened, where the record of another one
-- is, its parameters, and LLDB's text over them; where the system is known, how memory was
-- accessed, who sent the signal, the address and the reason of the crash; and why its context gives
-- no registers
pub record ExceptionValue : Type 0 where
  pub thread : ℕ
  pub code : ℕ
  pub flags : ℕ
  pub at : ℕ
  pub nested : ℕ
  pub parameters : List ℕ
  pub description : Option (List ℕ)
  pub access : Option Access
  pub sender : Option Sender
  pub address : Option ℕ
  pub reason : Option (List ℕ)
  pub context_problem : Option ContextProblem

-- the exceptions, each or why it can't be read, the index of the one that counts, and what is known
-- of the address
pub record CauseValue : Type 0 where
  pub exceptions : List (Result ExceptionValue Error)
  pub counts : Option ℕ
  pub address : Option AddressFacts

-- ---- the value of the structs

abbrev pub exception_of : CrashException → ExceptionValue
exception_of e = record {
  thread = e.thread;
  code = e.code;
  flags = e.flags;
  at = e.at;
  nested = e.nested;
  parameters = e.parameters.items;
  description = option_map string_bytes e.description;
  access = e.access;
  sender = e.sender;
  address = e.address;
  reason = option_map string_bytes e.reason;
  context_problem = e.context_problem;
}

abbrev pub cause_of : CrashCause → CauseValue
cause_of c = record {
  exceptions = map (map_ok exception_of) c.exceptions.items;
  counts = c.counts;
  address = c.address;
}

-- the exception that counts
abbrev pub counted_exception : CauseValue → Option ExceptionValue
counted_exception c = counted c.exceptions c.counts

-- ---- exceptions

-- an address is the instruction pointer of an exception's own context on a system
abbrev pub is_instruction : System → Exception → ℕ → Bool
is_instruction s e address = option_map_or (λ f. instruction_pointer_in f.raw == address)
    (any_context (Some s) e.order e.context) false

-- the record of an exception on a system has no address of a crash: none at all, or one that says only where the
-- thread stood, as the instruction pointer of the exception's own context, where code is known to be. Where none is,
-- as at 0, the thread jumped to it, and that was the access
abbrev has_no_address : ContentsValue → System → Exception → Bool
has_no_address c s e =
    let address = address_on s.os s.cpu e.raw.exception_record in
    lacks_address s.os s.cpu e.raw.exception_record || (may_be_instruction s.os e.raw.exception_record
    && (is_instruction s e address
    && has_code c.space.modules (info_regions c.space.infos) address))

-- the address of a crash where the system is known, unless a process sent the signal, or the record has none
abbrev pub address_unless : ContentsValue → Option Sender → Option System → Exception → Option ℕ
address_unless c None (Some s) e = if has_no_address c s e then None
    else Some (address_on s.os s.cpu e.raw.exception_record)
address_unless c _ _ e = None

-- the words for a signal that ended a process of macOS: its name, or its number
abbrev pub signal_words : ℕ → List ℕ
signal_words signal = codes "EXC_CRASH / "
    ++ unwrap_or (mac_signal_name signal) (codes "signal " ++ decimal signal)

-- the words for its reason, where the system is known
abbrev pub reason_in : Lists → Option System → Exception → Option (List ℕ)
reason_in names system e = option_map (λ s. let r = e.raw.exception_record in
    unwrap_or (option_map signal_words (ending_signal s.os r))
    (reason_text names (crash_reason names s.os s.cpu r))) system

-- the process that sent the signal of a record of a dump with these contents
abbrev pub sender_of_record : ContentsValue → MINIDUMP_EXCEPTION → Option Sender
sender_of_record c r = sender_in (has_signal_codes c) (system_of c) r

-- an exception of a dump with these contents
abbrev pub exception_in : Lists → ContentsValue → Exception → ExceptionValue
exception_in names c e = record {
  thread = e.thread_id;
  code = e.raw.exception_record.exception_code;
  flags = e.raw.exception_record.exception_flags;
  at = e.raw.exception_record.exception_address;
  nested = e.raw.exception_record.exception_record;
  parameters = parameters_in e.raw.exception_record;
  description = description_in e.raw.exception_record;
  access = access_in (system_of c) e.raw.exception_record;
  sender = sender_of_record c e.raw.exception_record;
  address = address_unless c (sender_of_record c e.raw.exception_record) (system_of c) e;
  reason = reason_in names (system_of c) e;
  context_problem = problem_in (system_of c) e.order (named_bytes e.raw.thread_context e.context);
}

-- the exceptions of a dump, each or why it can't be read
abbrev pub exceptions_in : Lists → ContentsValue → List (Result ExceptionValue Error)
exceptions_in names c = map (map_ok (exception_in names c)) c.threads.exceptions

-- ---- the address

-- what is known of the address of an exception
abbrev pub address_at : ContentsValue → Option ExceptionValue → Option AddressFacts
address_at c e = option_map (facts_of c) (option_and_then (λ e. e.address) e)

-- ---- all of it

-- the cause of a crash
abbrev pub cause_in : Lists → ContentsValue → CauseValue
cause_in names c = record {
  exceptions = exceptions_in names c;
  counts = counting c.threads.exceptions;
  address = address_at c (counted (exceptions_in names c) (counting c.threads.exceptions));
}
