-- The threads of a minidump: Microsoft's MINIDUMP_THREAD_LIST, with the context and the stack of
-- each.
use Rattle.std.specs.Prelude.{◌≡◌, ◌≢◌, ℕ, ◌+◌, All, List, ◌∷◌, ◌++◌, map, Option, Some, None, Result, Ok}
use Rattle.std.specs.Prelude.{if◌then◌else◌, nat_lt, ◌*◌, ◌^◌, ◌==◌, IsOkAnd, find, reverse}
use Rattle.std.specs.Prelude.{◌<◌, length}
use Rattle.std.specs.List.{sum_by}
use Rattle.std.specs.Option.{option_and_then, option_copied, option_map}
use Rattle.std.specs.Result.{result_ok}
use Rattle.minidump_bytes.specs.declared.endian.Endian.{Endian}
use Rattle.minidump_bytes.specs.Layout.{number_layout}
use Rattle.minidump_format.specs.declared.format.stream_type.MINIDUMP_STREAM_TYPE.TheVariants.{ThreadListStream}
use Rattle.minidump_format.specs.declared.error.Error.{Error}
use Rattle.minidump_format.specs.declared.format.memory.MINIDUMP_MEMORY_DESCRIPTOR.{MINIDUMP_MEMORY_DESCRIPTOR}
use Rattle.minidump_format.specs.declared.format.thread.MINIDUMP_THREAD.{MINIDUMP_THREAD}
use Rattle.minidump_format.specs.Header.{located}
use Rattle.minidump_format.specs.StreamType.{number_of}
use Rattle.minidump_format.specs.Thread.{thread}
use Rattle.minidump_index.specs.Lookup.{IsLookedUp, looked_up}
use Rattle.minidump_system.specs.StreamSpec.{StreamSpec}
use Rattle.minidump_system.specs.System.{System}
use Rattle.minidump_system.specs.declared.cpu.Cpu.{Cpu}
use Rattle.minidump_system.specs.Cpu.{pointer_bytes, width_of}
use Rattle.minidump_system.specs.Framing.{plain_list}
use Rattle.minidump_system.specs.Reads.{and_then}
use Rattle.minidump_context.specs.declared.raw_context.MinidumpRawContext.{MinidumpRawContext}
use Rattle.minidump_context.specs.Context.{context_in, registers_of, value_in}
use Rattle.minidump_memory.specs.Memory.{MemoryRegion, descriptor_region, memory_of, number_in}
use Rattle.minidump_memory.specs.Memory.{range_of_region, spans_read}
use Rattle.minidump_memory.specs.Unified.{Memory, UnifiedRegion, UnifiedRegions, of_kind, unified_regions}
use Rattle.minidump_reason.specs.declared.reason.CrashReason.{CrashReason}
use Rattle.minidump_reason.specs.Names.{Lists}
use Rattle.minidump_reason.specs.Reason.{windows_error}
use Rattle.minidump.specs.declared.thread.MinidumpThread.{MinidumpThread}
use Rattle.minidump.specs.declared.thread_list.MinidumpThreadList.{MinidumpThreadList}

-- the context that bytes hold on an architecture, where they hold one. An empty span holds none
abbrev pub accepted_context : ℕ → Endian → Option (List ℕ) → Option MinidumpRawContext
accepted_context architecture order bytes = option_and_then (λ b. result_ok (context_in order b architecture)) bytes

-- the context that bytes hold on the machine of a dump: none where that is unknown
abbrev pub known_context : Option System → Endian → Option (List ℕ) → Option MinidumpRawContext
known_context system order bytes =
    option_and_then (λ s. accepted_context s.raw.processor_architecture order bytes) system

-- the instruction pointer of a context
abbrev pub instruction_of : Option MinidumpRawContext → Option ℕ
instruction_of context = option_and_then (λ c. value_in (registers_of c) (registers_of c).instruction_pointer) context

-- a thread: its entry, the bytes of its context, its own stack, and their byte order
pub record Thread : Type 0 where
  pub raw : MINIDUMP_THREAD
  pub context : Option (List ℕ)
  pub stack : Option (MemoryRegion MINIDUMP_MEMORY_DESCRIPTOR)
  pub order : Endian

-- the thread of a `MinidumpThread`, as its fields have it
abbrev pub thread_of : MinidumpThread → Thread
thread_of t = record {
  raw = t.raw;
  context = option_copied t.context;
  stack = option_map memory_of t.stack;
  order = t.endian;
}

-- the threads of a `MinidumpThreadList`, as its entries have them
abbrev pub thread_list_of : MinidumpThreadList → List Thread
thread_list_of l = map thread_of l.threads.items

-- the thread of an entry: a context or a stack whose bytes are not in the file is absent, and so is
-- a stack without an RVA or a size
abbrev pub thread_at : Endian → List ℕ → MINIDUMP_THREAD → Thread
thread_at order file raw = record {
  raw = raw;
  context = located file raw.thread_context;
  stack = result_ok (descriptor_region order file raw.stack);
  order = order;
}

-- Microsoft's MINIDUMP_THREAD_LIST: a plain list of entries
abbrev pub thread_list_in : Endian → List ℕ → List ℕ → Result (List Thread) Error
thread_list_in order file bytes =
    and_then (plain_list thread order bytes) (λ raws. Ok (map (thread_at order file) raws))

-- the last thread of an id: it has the id, and none after it has. There is none only where no
-- thread has the id
abbrev pub IsLastThread : ℕ → List Thread → Option Thread → Type 0
IsLastThread id threads None = All (λ t. t.raw.thread_id ≢ id) threads
IsLastThread id threads (Some last) =
    (earlier later : List Thread) × (threads ≡ earlier ++ (last ∷ later)) × (last.raw.thread_id ≡ id)
    × All (λ t. t.raw.thread_id ≢ id) later

-- the same thread, as a function
abbrev pub last_with : ℕ → List Thread → Option Thread
last_with id threads = find (λ t. t.raw.thread_id == id) (reverse threads)

-- the reads that a thread takes: one for its context, and one for its stack if that has an RVA and
-- a size
abbrev pub thread_reads : Thread → ℕ
thread_reads t = 1 + spans_read t.raw.stack

-- the stack is the thread's own, where it has one; else this is said of it
abbrev IsOwnOr : Option (MemoryRegion MINIDUMP_MEMORY_DESCRIPTOR) → Type 0 → Option UnifiedRegion → Type 0
IsOwnOr (Some own) otherwise found = found ≡ Some (of_kind Memory own)
IsOwnOr None otherwise found = otherwise

-- a thread's stack: its own, else the region in a list of memory that the start of its stack lies
-- in
abbrev pub IsStack : Thread → UnifiedRegions → Option UnifiedRegion → Type 0
IsStack t memory found =
    IsOwnOr t.stack (IsLookedUp range_of_region (unified_regions memory) t.raw.stack.start_of_memory_range found) found

-- a thread's own stack, else the region that a list of memory has for it
abbrev pub own_or : Option (MemoryRegion MINIDUMP_MEMORY_DESCRIPTOR) → Option UnifiedRegion → Option UnifiedRegion
own_or (Some own) otherwise = Some (of_kind Memory own)
own_or None otherwise = otherwise

-- the region in a list of memory that contains an address
abbrev pub stack_in_list : Option UnifiedRegions → ℕ → Option UnifiedRegion
stack_in_list memory address =
    option_and_then (λ m. looked_up range_of_region (unified_regions m) address) memory

-- the stack of a thread, as a function
abbrev pub stack_of : Option UnifiedRegions → Thread → Option UnifiedRegion
stack_of memory t = own_or t.stack (stack_in_list memory t.raw.stack.start_of_memory_range)

-- the address of LastErrorValue in Windows' thread environment block, 13 pointers after its start,
-- on every system: none without a width of pointers, or beyond the addresses of 64 bits
abbrev pub last_error_address : Cpu → ℕ → Option ℕ
last_error_address cpu teb =
    option_and_then
    (λ width. if nat_lt (teb + 13 * width) (2 ^ 64) then Some (teb + 13 * width) else None)
    (pointer_bytes (width_of cpu))

-- the error that a region holds at an address
abbrev pub error_at : Lists → ℕ → Option UnifiedRegion → Option CrashReason
error_at names address region =
    option_map (windows_error names) (option_and_then (λ r. number_in (number_layout 4) r address) region)

-- the error at an address of a list of memory: that of the region that contains the address. A
-- thread's own stack is no part of the list
abbrev pub IsErrorIn : Lists → UnifiedRegions → Option ℕ → Option CrashReason → Type 0
IsErrorIn names memory None found = found ≡ None
IsErrorIn names memory (Some address) found =
    (region : Option UnifiedRegion) × IsLookedUp range_of_region (unified_regions memory) address region
    × (found ≡ error_at names address region)

-- the same error, as a function
abbrev pub error_in : Lists → UnifiedRegions → Option ℕ → Option CrashReason
error_in names memory None = None
error_in names memory (Some address) =
    error_at names address (looked_up range_of_region (unified_regions memory) address)

-- the stream of type ThreadListStream
abbrev pub thread_list_stream : StreamSpec MinidumpThreadList (List Thread)
thread_list_stream = record {
  stream_type = number_of ThreadListStream;
  value = thread_list_of;
  meaning = λ order file bytes system. thread_list_in order file bytes;
  most = λ n. n + 7;
  fewest = λ order bytes system threads. 1 + length threads + sum_by thread_reads threads;
  memory = λ order file bytes system. IsOkAnd (plain_list thread order bytes) (λ raws. 0 < length raws);
}
