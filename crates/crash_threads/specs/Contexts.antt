-- The registers of a thread, by the context of the exception or its own, whole or cut after its
-- general registers, or why there are none.
use Rattle.std.specs.Prelude.{ℕ, ◌-◌, ◌++◌, ◌==◌, ◌&&◌, Bool, false, List, [], is_none, is_some, length, map, nat_le}
use Rattle.std.specs.Prelude.{nat_lt, replicate, Option, Some, None, if◌then◌else◌}
use Rattle.std.specs.Option.{option_and_then, option_map, option_or}
use Rattle.std.specs.Result.{result_ok}
use Rattle.minidump.specs.declared.Endian.{Endian}
use Rattle.minidump.specs.declared.MinidumpContextValidity.TheVariants.{All}
use Rattle.minidump.specs.declared.MinidumpRawContext.{MinidumpRawContext}
use Rattle.minidump.specs.declared.MinidumpRawContext.TheVariants.{Amd64, Arm64, OldArm64}
use Rattle.minidump.specs.declared.format.MINIDUMP_LOCATION_DESCRIPTOR.{MINIDUMP_LOCATION_DESCRIPTOR}
use Rattle.minidump.specs.declared.system_info.Cpu.{Cpu}
use Rattle.minidump.specs.declared.system_info.Cpu.TheVariants as cpu
use Rattle.minidump.specs.Below.Bytes.Span.{record_at}
use Rattle.minidump.specs.Below.Contexts.Context.{registers_of, valid_registers_from}
use Rattle.minidump.specs.Below.Format.ContextArm64.{context_arm64_old}
use Rattle.minidump.specs.Below.Format.Flags.{has_flag}
use Rattle.minidump.specs.Below.System.System.{System}
use Rattle.minidump.specs.Exception.{Exception}
use Rattle.minidump.specs.Thread.{Thread, accepted_context}
use Rattle.crash_threads.specs.declared.contexts.ContextOrigin.{ContextOrigin}
use Rattle.crash_threads.specs.declared.contexts.ContextOrigin.TheVariants.{OfException, OfThread}
use Rattle.crash_threads.specs.declared.contexts.ContextProblem.{ContextProblem}
use Rattle.crash_threads.specs.declared.contexts.ContextProblem.TheVariants.{NoSystem, NotAccepted, Outside}
use Rattle.crash_threads.specs.declared.contexts.CrashContext.{CrashContext}
use Rattle.crash_threads.specs.declared.contexts.FoundContext.{FoundContext}
use Rattle.crash_threads.specs.declared.contexts.ShortContext.{ShortContext}
use Rattle.crash_streams.specs.Contents.{ContentsValue}

-- the registers with their names, how many bytes each has, whose context they are of, and how much
-- of that there is, where it is cut
pub record ContextValue : Type 0 where
  pub registers : List (List ℕ × ℕ)
  pub size : ℕ
  pub origin : ContextOrigin
  pub short : Option ShortContext

-- the same of a `CrashContext`
abbrev pub context_of : CrashContext → ContextValue
context_of c = record {
  registers = map (λ r. (r.0.now, r.1)) c.registers.items;
  size = c.size;
  origin = c.origin;
  short = c.short;
}

-- the system, where it is known
abbrev pub system_of : ContentsValue → Option System
system_of c = result_ok c.system.system

-- ---- contexts that are whole

-- the context at the start of the bytes in Breakpad's first layout of ARM64: its flags have the
-- number of that layout, and those of the integer and the floating-point registers. On a processor
-- of the layout that came after it LLDB writes the first one, too
abbrev pub old_on : Cpu → Endian → List ℕ → Option MinidumpRawContext
old_on cpu.Arm64 order bytes = option_and_then (λ c.
    if has_flag c.context_flags 0x8000_0006 then Some (OldArm64 c) else None)
    (record_at context_arm64_old order 0 bytes)
old_on other order bytes = None

-- ---- contexts that are cut after the general registers

-- how many bytes of a processor's context end with its general registers, and how many it has. The
-- last of these registers is rip of x86-64, at 0xf8, and pc of ARM64, at 0x108
abbrev pub lengths : Cpu → Option (ℕ × ℕ)
lengths cpu.X86_64 = Some (0x100, 1232)
lengths cpu.Arm64 = Some (0x110, 912)
lengths other = None

-- the flags of a context have CONTEXT_CONTROL and CONTEXT_INTEGER of winnt.h: the general registers
-- are set
abbrev pub has_general : MinidumpRawContext → Bool
has_general (Amd64 c) = has_flag c.context_flags 3
has_general (Arm64 c) = has_flag c.context_flags 3
has_general other = false

-- bytes with zeros after them, so many in all
abbrev pub padded : List ℕ → ℕ → List ℕ
padded bytes whole = bytes ++ replicate (whole - length bytes) 0

-- the context of which bytes are the front, if they have all general registers, by how many bytes there are at
-- least and at most
abbrev short_by : System → Endian → List ℕ → ℕ × ℕ → Option FoundContext
short_by s order bytes l =
    let short : ShortContext = record { size = length bytes; whole = l.1 } in
    if nat_le l.0 (length bytes) && nat_lt (length bytes) l.1 then option_and_then
    (λ raw. if has_general raw then Some (record { raw = raw; short = Some short }) else None)
    (accepted_context s.raw.processor_architecture order (Some (padded bytes l.1))) else None

-- the same on the processor of a system
abbrev pub short_context : System → Endian → List ℕ → Option FoundContext
short_context s order bytes = option_and_then (short_by s order bytes) (lengths s.cpu)

-- ---- the context of a thread

-- the context that bytes hold: whole, in the layout of the processor or in another one, or cut after its general
-- registers
abbrev pub context_on : System → Endian → List ℕ → Option FoundContext
context_on s order bytes = option_or (option_map (λ raw. record { raw = raw; short = None })
    (option_or (accepted_context s.raw.processor_architecture order (Some bytes)) (old_on s.cpu order bytes)))
    (short_context s order bytes)

-- the same, where the system is known and the bytes are in the file
abbrev pub any_context : Option System → Endian → Option (List ℕ) → Option FoundContext
any_context system order bytes =
    option_and_then (λ s. option_and_then (context_on s order) bytes) system

-- the context of an exception
abbrev pub context_at : ContentsValue → Exception → Option FoundContext
context_at c e = any_context (system_of c) e.order e.context

-- the same, where the exception happened on the thread with an id
abbrev on_thread : ContentsValue → Option Exception → ℕ → Option FoundContext
on_thread c e id =
    option_and_then (λ e. if e.thread_id == id then context_at c e else None) e

-- a context, if it is whole
abbrev whole_only : Option FoundContext → Option FoundContext
whole_only (Some f) = if is_none f.short then Some f else None
whole_only None = None

-- a context with whose it is
abbrev pub of_origin : ContextOrigin → Option FoundContext → Option (ContextOrigin × FoundContext)
of_origin origin context = option_map (λ f. (origin, f)) context

-- the first of the context of an exception on a thread and of the thread's own
abbrev first_of : Option FoundContext → Option FoundContext
    → Option (ContextOrigin × FoundContext)
first_of exception own = option_or (of_origin OfException exception) (of_origin OfThread own)

-- the context by which the registers of a thread of the list are known, and whose it is, by the
-- exception that counts: the first of both that is whole, else the first
abbrev pub found_in : ContentsValue → Option Exception → Thread
    → Option (ContextOrigin × FoundContext)
found_in c e t =
    let exception = on_thread c e t.raw.thread_id in
    let own = any_context (system_of c) t.order t.context in
    option_or (first_of (whole_only exception) (whole_only own)) (first_of exception own)

-- the values of the registers of a context by their names, in the order of the processor
abbrev pub register_values : MinidumpRawContext → List (List ℕ × ℕ)
register_values raw = valid_registers_from All (registers_of raw) 0

-- the registers of a context that is found, with whose it is and how much of it there is, where it is cut
abbrev pub context_by : ContextOrigin × FoundContext → ContextValue
context_by f = record {
  registers = register_values f.1.raw;
  size = (registers_of f.1.raw).size;
  origin = f.0;
  short = f.1.short;
}

-- ---- why there are none

-- the bytes of a context at a location: where that has no size they are none, wherever it is
abbrev pub named_bytes : MINIDUMP_LOCATION_DESCRIPTOR → Option (List ℕ) → Option (List ℕ)
named_bytes location bytes = if location.data_size == 0 then Some [] else bytes

-- why the bytes of a context give no registers: they aren't in the file, the system is unknown, or it
-- doesn't accept them
abbrev pub problem_in : Option System → Endian → Option (List ℕ) → Option ContextProblem
problem_in system order None = Some Outside
problem_in None order (Some bytes) = Some NoSystem
problem_in (Some s) order (Some bytes) =
    if is_some (context_on s order bytes) then None else Some (NotAccepted (length bytes))

-- how many bytes there are of a context that isn't accepted, where there are any
abbrev pub unaccepted_size : Option ContextProblem → Option ℕ
unaccepted_size (Some (NotAccepted size)) = if size == 0 then None else Some size
unaccepted_size (Some Outside) = None
unaccepted_size (Some NoSystem) = None
unaccepted_size None = None
