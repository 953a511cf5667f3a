-- The summary of a crash: which thread, where, why, in which module and on which stack, by what the
-- streams of a minidump are.
use Rattle.std.specs.Prelude.{ℕ, List, [], Option, Some, Result, Ok, string_bytes, unwrap_or}
use Rattle.std.specs.Option.{option_and_then, option_map, option_or}
use Rattle.std.specs.Result.{result_ok}
use Rattle.minidump.specs.declared.Error.{Error}
use Rattle.minidump.specs.Below.Index.Lookup.{looked_up}
use Rattle.minidump.specs.Below.MemoryLists.Unified.{Memory, UnifiedRegions}
use Rattle.minidump.specs.Below.Modules.Module.{ModuleValue, range_of_module}
use Rattle.minidump.specs.Below.Reasons.Names.{Lists}
use Rattle.minidump.specs.Below.Reasons.Reason.{crash_reason}
use Rattle.minidump.specs.Below.Reasons.ReasonText.{reason_text}
use Rattle.minidump.specs.Below.System.Reads.{and_then}
use Rattle.minidump.specs.Below.System.System.{System}
use Rattle.minidump.specs.Dump.{Dump, dump_in, dump_system, stream_of}
use Rattle.minidump.specs.Exception.{Exception, crash_address}
use Rattle.minidump.specs.Memory.{memories_of_dump}
use Rattle.minidump.specs.Modules.{modules_of_dump}
use Rattle.minidump.specs.Promise.{exception_stream, thread_list_stream}
use Rattle.minidump.specs.Thread.{Thread, instruction_of, known_context, last_with, stack_of}
use Rattle.crash_summary.specs.declared.CrashSummary.{CrashSummary}
use Rattle.crash_summary.specs.declared.ModuleHit.{ModuleHit}
use Rattle.crash_summary.specs.declared.StackHit.{StackHit}

-- a module: where it was loaded, and the bytes of its name
pub record Loaded : Type 0 where
  pub base : ℕ
  pub size : ℕ
  pub name : List ℕ

-- the thread's id, the address, the text of the reason, the module and the stack
pub record Summary : Type 0 where
  pub thread : ℕ
  pub address : Option ℕ
  pub reason : Option (List ℕ)
  pub loaded : Option Loaded
  pub stack : Option StackHit

-- ---- the values of the structs

abbrev pub loaded_of : ModuleHit → Loaded
loaded_of hit = record { base = hit.base; size = hit.size; name = string_bytes hit.name }

abbrev pub summary_of : CrashSummary → Summary
summary_of s = record {
  thread = s.thread;
  address = s.address;
  reason = option_map string_bytes s.reason;
  loaded = option_map loaded_of s.«module»;
  stack = s.stack;
}

-- ---- the streams: a list that is missing or malformed is empty

abbrev pub threads_in : Dump → List Thread
threads_in d = unwrap_or (result_ok (stream_of thread_list_stream d)) []

abbrev pub modules_in : Dump → List ModuleValue
modules_in d = unwrap_or (modules_of_dump d) []

abbrev pub memory_in : Dump → UnifiedRegions
memory_in d = unwrap_or (memories_of_dump d) (Memory [])

-- ---- the parts of a summary

-- the address of a crash, where there is system information
abbrev pub address_in : Option System → Exception → Option ℕ
address_in system e = option_map (λ s. crash_address s.os s.cpu e.raw.exception_record) system

-- the text of the reason of a crash, where there is system information
abbrev pub reason_in : Lists → Option System → Exception → Option (List ℕ)
reason_in names system e = option_map
    (λ s. reason_text names (crash_reason names s.os s.cpu e.raw.exception_record)) system

-- the instruction pointer of a crash: that of the exception's context, or, where that can't be
-- decoded, of the thread's
abbrev pub crash_pointer : Option System → Exception → Option Thread → Option ℕ
crash_pointer system e thread = instruction_of (option_or (known_context system e.order e.context)
    (option_and_then (λ t. known_context system t.order t.context) thread))

-- the kept module that contains the address, where there is an address
abbrev pub module_at : List ModuleValue → Option ℕ → Option Loaded
module_at modules address = option_map
    (λ m. record { base = m.raw.base_of_image; size = m.raw.size_of_image; name = m.name })
    (option_and_then (looked_up range_of_module modules) address)

-- the stack of a thread: its own, else the kept region of the memory in which it begins
abbrev pub stack_in : UnifiedRegions → Option Thread → Option StackHit
stack_in memory thread =
    option_map (λ region. record { base = region.base_address; size = region.size })
    (option_and_then (stack_of (Some memory)) thread)

-- ---- the summary

-- the summary of an exception, whose thread is the last one of its id
abbrev pub summary_at : Lists → Dump → Exception → Summary
summary_at names d e = let thread = last_with e.thread_id (threads_in d) in record {
  thread = e.thread_id;
  address = address_in (dump_system d) e;
  reason = reason_in names (dump_system d) e;
  loaded = module_at (modules_in d) (crash_pointer (dump_system d) e thread);
  stack = stack_in (memory_in d) thread;
}

-- the summary of a file, or the error of the dump, or that of the exception's stream
abbrev pub summary_in : List ℕ → Lists → Result Summary Error
summary_in file names = and_then (dump_in file)
    (λ d. and_then (stream_of exception_stream d) (λ e. Ok (summary_at names d e)))
