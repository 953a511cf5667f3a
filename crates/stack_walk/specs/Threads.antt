-- The frames of a thread, by what a dump has of its process.
use Rattle.std.specs.Prelude.{ℕ, ◌+◌, ◌==◌, ◌&&◌, Bool, false, List, [], length, nat_le}
use Rattle.std.specs.Prelude.{nat_lt, Option, Some, None, if◌then◌else◌}
use Rattle.std.specs.Option.{option_and_then, option_copied, option_map, option_map_or, option_or}
use Rattle.minidump.specs.declared.MinidumpContextValidity.TheVariants.{All}
use Rattle.minidump.specs.declared.MinidumpRawContext.{MinidumpRawContext}
use Rattle.minidump.specs.Below.Index.Lookup.{looked_up}
use Rattle.minidump.specs.Below.MemoryLists.Memory.{range_of_region}
use Rattle.minidump.specs.Below.MemoryLists.Unified.{UnifiedRegion, UnifiedRegions, unified_list}
use Rattle.minidump.specs.Below.MemoryLists.Unified.{unified_regions}
use Rattle.minidump.specs.Below.MemoryLists.UnifiedInfo.{InfoRegion, info_list, info_regions}
use Rattle.minidump.specs.Below.Modules.Module.{ModuleValue}
use Rattle.minidump.specs.Below.Modules.ModuleList.{module_list_of}
use Rattle.minidump.specs.Below.System.Cpu.{width_of}
use Rattle.minidump.specs.Below.System.System.{System}
use Rattle.minidump.specs.Exception.{Exception}
use Rattle.minidump.specs.Promise.{exception_stream, system_info_stream}
use Rattle.minidump.specs.Thread.{Thread, accepted_context, stack_of}
use Rattle.stack_walk.specs.declared.frame.StackFrame.{StackFrame}
use Rattle.stack_walk.specs.declared.thread.Process.{Process}
use Rattle.stack_walk.specs.Frames.{StackValue, stack_pointer_in}
use Rattle.stack_walk.specs.Walk.{WalkValue, all_frames, walk_in}

-- a process: its system, the exception, the modules, the memory, what is known of its regions, and
-- how many of the low bits of a return address are its address
pub record ProcessValue : Type 0 where
  pub system : System
  pub exception : Option Exception
  pub modules : List ModuleValue
  pub memory : UnifiedRegions
  pub infos : List InfoRegion
  pub code_bits : ℕ

-- the process of a `Process`, as its streams have it
abbrev pub process_of : Process → ProcessValue
process_of p = record {
  system = system_info_stream.value p.system.now;
  exception = option_map exception_stream.value (option_copied p.exception);
  modules = module_list_of p.modules.now;
  memory = unified_list p.memory.now;
  infos = info_regions (info_list p.infos.now);
  code_bits = p.code_bits;
}

-- the context of the exception, where it happened on the thread with an id
abbrev pub exception_context : ProcessValue → ℕ → Option MinidumpRawContext
exception_context p id = option_and_then (λ e.
    if e.thread_id == id then accepted_context p.system.raw.processor_architecture e.order e.context
    else None) p.exception

-- the context of a thread: the exception's, else its own
abbrev pub thread_context : ProcessValue → Thread → Option MinidumpRawContext
thread_context p t =
    option_or (exception_context p t.raw.thread_id)
    (accepted_context p.system.raw.processor_architecture t.order t.context)

-- whether a region holds the byte at an address
abbrev pub holds : ℕ → Option UnifiedRegion → Bool
holds address region = option_map_or (λ r. nat_le r.base_address address
    && nat_lt address (r.base_address + length r.bytes)) region false

-- the region of a thread's stack, by its stack pointer: the thread's own, if it holds that, else
-- the kept region of the memory that does, as that of a handler, else the thread's own
abbrev pub thread_stack : UnifiedRegions → Thread → ℕ → Option UnifiedRegion
thread_stack memory t stack_pointer =
    let own = stack_of (Some memory) t in
    if holds stack_pointer own then own
    else option_or (looked_up range_of_region (unified_regions memory) stack_pointer) own

-- a stack in a process, by its region
abbrev pub stack_in : ProcessValue → Option UnifiedRegion → StackValue
stack_in p region = record {
  region = region;
  modules = p.modules;
  memory = p.memory;
  infos = p.infos;
  cpu = p.system.cpu;
  width = width_of p.system.cpu;
  code_bits = p.code_bits;
}

-- the walk of a context of a thread, all of whose registers are valid
abbrev pub walk_by : ProcessValue → Thread → ℕ → MinidumpRawContext → WalkValue
walk_by p t limit raw = walk_in (stack_in p (thread_stack p.memory t (stack_pointer_in raw)))
    (record { raw = raw; valid = All }) limit

-- the walk of a thread: none without a context
abbrev pub thread_walk_in : ProcessValue → Thread → ℕ → Option WalkValue
thread_walk_in p t limit = option_map (walk_by p t limit) (thread_context p t)

-- the frames of a thread, and then the candidates: none without a context
abbrev pub thread_frames_in : ProcessValue → Thread → ℕ → List StackFrame
thread_frames_in p t limit = option_map_or all_frames (thread_walk_in p t limit) []
