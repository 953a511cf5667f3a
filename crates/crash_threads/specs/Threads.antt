-- The threads of a process, and which of them crashed.
use Rattle.std.specs.Prelude.{ℕ, ◌==◌, ◌++◌, Bool, false, true, List, [], ◌∷◌, length, map, is_some, Option, Some}
use Rattle.std.specs.Prelude.{None, Result, Ok, Err, if◌then◌else◌, slice_get, string_bytes, unwrap_or}
use Rattle.std.specs.Option.{option_and_then, option_map, option_map_or}
use Rattle.std.specs.Result.{result_ok}
use Rattle.minidump.specs.declared.CrashReason.{CrashReason}
use Rattle.minidump.specs.declared.Error.{Error}
use Rattle.minidump.specs.declared.MinidumpContext.{MinidumpContext}
use Rattle.minidump.specs.declared.system_info.Cpu.{Cpu}
use Rattle.minidump.specs.declared.system_info.Os.{Os}
use Rattle.minidump.specs.declared.system_info.Os.TheVariants.{Windows}
use Rattle.minidump.specs.Below.MemoryLists.Unified.{UnifiedRegions}
use Rattle.minidump.specs.Below.Reasons.Names.{Lists}
use Rattle.minidump.specs.Below.Reasons.ReasonText.{reason_text}
use Rattle.minidump.specs.Below.Records.ThreadNames.{ThreadNames, name_of_thread}
use Rattle.minidump.specs.Exception.{Exception}
use Rattle.minidump.specs.Thread.{Thread, error_in, last_error_address, last_with}
use Rattle.stack_walk.specs.Frames.{StackValue}
use Rattle.crash_threads.specs.declared.contexts.ContextProblem.{ContextProblem}
use Rattle.crash_threads.specs.declared.contexts.ShortContext.{ShortContext}
use Rattle.crash_threads.specs.declared.threads.CrashThread.{CrashThread}
use Rattle.crash_threads.specs.declared.threads.CrashThreads.{CrashThreads}
use Rattle.crash_threads.specs.declared.stacks.StackRange.{StackRange}
use Rattle.crash_streams.specs.Contents.{ContentsValue}
use Rattle.crash_threads.specs.declared.contexts.ContextOrigin.TheVariants.{OfException}
use Rattle.crash_threads.specs.Contexts.{ContextValue, context_at, context_by, context_of, found_in}
use Rattle.crash_threads.specs.Contexts.{named_bytes, of_origin, problem_in, system_of}
use Rattle.crash_threads.specs.Counting.{counted, counting_exception}
use Rattle.crash_threads.specs.Frames.{CrashWalkValue, code_bits_in, crash_walk_of, exception_walked}
use Rattle.crash_threads.specs.Frames.{thread_walked, walk_from}
use Rattle.crash_threads.specs.Last.{last_index}
use Rattle.crash_threads.specs.Addresses.{is_outside, named_stack, stack_memory}

-- a thread: its id, whether the list has it, its name, its registers and why its own context gives
-- none, its stack, the memory of that and what is found in it, and its last error
pub record ThreadValue : Type 0 where
  pub id : ℕ
  pub is_listed : Bool
  pub name : Option (List ℕ)
  pub context : Option ContextValue
  pub context_problem : Option ContextProblem
  pub stack : Option StackRange
  pub stack_memory : Option StackRange
  pub is_stack_outside : Bool
  pub walk : Option CrashWalkValue
  pub last_error : Option (List ℕ)

-- the threads, the index of the one that crashed, and how many of the low bits of a return address are its
-- address
pub record ThreadsValue : Type 0 where
  pub threads : List ThreadValue
  pub crashing : Option ℕ
  pub code_bits : ℕ

-- ---- the value of the structs

abbrev pub thread_value : CrashThread → ThreadValue
thread_value t = record {
  id = t.id;
  is_listed = t.is_listed;
  name = option_map string_bytes t.name;
  context = option_map context_of t.context;
  context_problem = t.context_problem;
  stack = t.stack;
  stack_memory = t.stack_memory;
  is_stack_outside = t.is_stack_outside;
  walk = option_map crash_walk_of t.walk;
  last_error = option_map string_bytes t.last_error;
}

abbrev pub threads_of : CrashThreads → ThreadsValue
threads_of t = record {
  threads = map thread_value t.threads.items;
  crashing = t.crashing;
  code_bits = t.code_bits;
}

-- how much there is of the context of a thread's registers, where that is cut
abbrev pub short_context : ThreadValue → Option ShortContext
short_context t = option_and_then (λ c. c.short) t.context

-- ---- what is known of a thread

-- the name of the thread of an id
abbrev pub name_in : Result ThreadNames Error → ℕ → Option (List ℕ)
name_in names id = option_and_then (λ all. name_of_thread all.names id) (result_ok names)

-- the last error of a thread on an operating system: Windows alone keeps it, in the thread's environment
-- block. Elsewhere what a record calls that block is none
abbrev pub error_on : Os → Cpu → Lists → UnifiedRegions → Thread → Option CrashReason
error_on Windows cpu names memory t = error_in names memory (last_error_address cpu t.raw.teb)
error_on _ cpu names memory t = None

-- the words for it, where the system is known
abbrev pub last_error_in : Lists → ContentsValue → Thread → Option (List ℕ)
last_error_in names c t = option_map (reason_text names)
    (option_and_then (λ s. error_on s.os s.cpu names c.space.memory t) (system_of c))

-- a thread of the list, by the exception that counts
abbrev pub thread_in : Lists → ℕ → ContentsValue → ℕ → Option Exception → Thread → ThreadValue
thread_in names scan c bits e t = record {
  id = t.raw.thread_id;
  is_listed = true;
  name = name_in c.threads.names t.raw.thread_id;
  context = option_map context_by (found_in c e t);
  context_problem = problem_in (system_of c) t.order (named_bytes t.raw.thread_context t.context);
  stack = named_stack t.raw.stack;
  stack_memory = stack_memory c t;
  is_stack_outside = is_outside t;
  walk = option_map (walk_from scan) (thread_walked c bits e t);
  last_error = last_error_in names c t;
}

-- ---- the threads

-- the entries of the list: none where it can't be read
abbrev pub entries_in : Result (List Thread) Error → List Thread
entries_in threads = unwrap_or (result_ok threads) []

-- a thread of the list has an id
abbrev pub has_thread : ℕ → Result (List Thread) Error → Bool
has_thread id (Ok threads) = is_some (last_with id threads)
has_thread id (Err _) = false

-- an exception where the list lacks its thread
abbrev pub unlisted : ContentsValue → Option Exception → Option Exception
unlisted c (Some e) = if has_thread e.thread_id c.threads.threads then None else Some e
unlisted c None = None

-- the thread of such an exception
abbrev pub extra_in : ℕ → ContentsValue → ℕ → Exception → ThreadValue
extra_in scan c bits e = record {
  id = e.thread_id;
  is_listed = false;
  name = name_in c.threads.names e.thread_id;
  context = option_map context_by (of_origin OfException (context_at c e));
  context_problem = None;
  stack = None;
  stack_memory = None;
  is_stack_outside = false;
  walk = option_map (walk_from scan) (exception_walked c bits e);
  last_error = None;
}

-- the threads of the list, and after them that of the exception where the list lacks it
abbrev pub all_threads : Lists → ℕ → ContentsValue → ℕ → Option Exception → List ThreadValue
all_threads names scan c bits e = map (thread_in names scan c bits e) (entries_in c.threads.threads)
    ++ option_map_or (λ e. extra_in scan c bits e ∷ []) (unlisted c e) []

-- the index of the thread that crashed: the last of the exception's id
abbrev pub crashing_at : List ThreadValue → Option Exception → Option ℕ
crashing_at threads e = option_and_then (λ e. last_index (λ t. t.id == e.thread_id) threads) e

-- the threads of a process, with at most so many candidates each
abbrev pub threads_in : Lists → ℕ → ContentsValue → ThreadsValue
threads_in names scan c = record {
  threads = all_threads names scan c (code_bits_in c) (counting_exception c);
  crashing = crashing_at (all_threads names scan c (code_bits_in c) (counting_exception c))
      (counting_exception c);
  code_bits = code_bits_in c;
}

-- the thread that crashed, with its index
abbrev pub crashed_thread : ThreadsValue → Option (ℕ × ThreadValue)
crashed_thread t = option_and_then
    (λ index. option_map (λ thread. (index, thread)) (slice_get t.threads index)) t.crashing

-- ---- how they are walked

-- the stack and the context by which the thread is walked that the list lacks
abbrev pub extra_walked : ContentsValue → ℕ → Option Exception
    → Option (StackValue × MinidumpContext)
extra_walked c bits e = option_and_then (exception_walked c bits) (unlisted c e)

-- those of the thread of an index, where the exception of another index counts: of the list, or the one after it
abbrev pub walked_at : ContentsValue → ℕ → Option ℕ → ℕ → Option (StackValue × MinidumpContext)
walked_at c bits counts index =
    let e = counted c.threads.exceptions counts in
    option_map_or (thread_walked c bits e) (slice_get (entries_in c.threads.threads) index)
    (if index == length (entries_in c.threads.threads) then extra_walked c bits e else None)
