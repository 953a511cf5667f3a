-- What is found in the stack of a thread: its frames, each with its module, the candidates, and
-- why there is no further caller.
use Rattle.std.specs.Prelude.{ℕ, ◌++◌, List, map, Option, Some}
use Rattle.std.specs.Option.{option_and_then, option_map, option_map_or}
use Rattle.std.specs.Result.{result_ok}
use Rattle.minidump.specs.declared.MinidumpContext.{MinidumpContext}
use Rattle.minidump.specs.declared.MinidumpContextValidity.TheVariants.{All}
use Rattle.minidump.specs.Below.Index.Lookup.{looked_up}
use Rattle.minidump.specs.Below.MemoryLists.Memory.{range_of_region}
use Rattle.minidump.specs.Below.MemoryLists.Unified.{UnifiedRegion, UnifiedRegions, unified_regions}
use Rattle.minidump.specs.Below.MemoryLists.UnifiedInfo.{info_regions}
use Rattle.minidump.specs.Exception.{Exception}
use Rattle.minidump.specs.Thread.{Thread}
use Rattle.stack_walk.specs.declared.end.WalkEnd.{WalkEnd}
use Rattle.stack_walk.specs.declared.frame.StackFrame.{StackFrame}
use Rattle.stack_walk.specs.declared.stack.Stack.{Stack}
use Rattle.stack_walk.specs.Addresses.{code_bits}
use Rattle.stack_walk.specs.Frames.{StackValue, stack_of, stack_pointer_in}
use Rattle.stack_walk.specs.Lookups.{lookup_address, module_place}
use Rattle.stack_walk.specs.Threads.{ProcessValue, stack_in, thread_stack}
use Rattle.stack_walk.specs.Walk.{WalkValue, walk_in}
use Rattle.crash_threads.specs.declared.contexts.FoundContext.{FoundContext}
use Rattle.crash_threads.specs.declared.frames.CrashFrame.{CrashFrame}
use Rattle.crash_threads.specs.declared.frames.CrashWalk.{CrashWalk}
use Rattle.crash_streams.specs.Contents.{ContentsValue}
use Rattle.crash_threads.specs.Contexts.{context_at, found_in}

-- the frames, the candidates, and why the last of the frames has no caller
pub record CrashWalkValue : Type 0 where
  pub frames : List CrashFrame
  pub candidates : List CrashFrame
  pub end : WalkEnd

-- the same of a `CrashWalk`
abbrev pub crash_walk_of : CrashWalk → CrashWalkValue
crash_walk_of w = record {
  frames = w.frames.items;
  candidates = w.candidates.items;
  end = w.end;
}

-- the frames, and the candidates after them
abbrev pub all_frames : CrashWalkValue → List CrashFrame
all_frames w = w.frames ++ w.candidates

-- ---- frames

-- a frame of a stack with its module: the index of the kept one that contains its address, and the offset
-- in that
abbrev pub frame_in : StackValue → StackFrame → CrashFrame
frame_in s f = record {
  address = lookup_address s.cpu f;
  instruction = f.instruction;
  stack_pointer = f.stack_pointer;
  frame_pointer = f.frame_pointer;
  trust = f.trust;
  «module» = option_and_then (module_place s.modules) (lookup_address s.cpu f);
}

-- ---- walks

-- how many of the low bits of a return address are its address, by the system and the modules: all 64 where the
-- system is unknown
abbrev pub code_bits_in : ContentsValue → ℕ
code_bits_in c = option_map_or (λ s. code_bits s.os s.cpu c.space.modules) (result_ok c.system.system) 64

-- the process with such an exception, where the system is known, by how many of the low bits of a return
-- address are its address
abbrev pub process_in : ContentsValue → ℕ → Option Exception → Option ProcessValue
process_in c bits e = option_map (λ system. record {
  system = system;
  exception = e;
  modules = c.space.modules;
  memory = c.space.memory;
  infos = info_regions c.space.infos;
  code_bits = bits;
}) (result_ok c.system.system)

-- the stack and the context by which a thread is walked, of a `Stack` and a context
abbrev pub walked_of : Stack × MinidumpContext → StackValue × MinidumpContext
walked_of w = (stack_of w.0, w.1)

-- the context that is found, all of whose registers are valid
abbrev pub context_of : FoundContext → MinidumpContext
context_of f = record { raw = f.raw; valid = All }

-- the stack and the context by which a thread of the list is walked, by the contents and the
-- exception that counts: none without a context
abbrev pub thread_walked : ContentsValue → ℕ → Option Exception → Thread
    → Option (StackValue × MinidumpContext)
thread_walked c bits e t = option_and_then (λ p. option_map
    (λ f. (stack_in p (thread_stack p.memory t (stack_pointer_in f.1.raw)), context_of f.1))
    (found_in c e t)) (process_in c bits e)

-- the kept region of the memory that contains an address
abbrev pub memory_at : UnifiedRegions → ℕ → Option UnifiedRegion
memory_at memory address = looked_up range_of_region (unified_regions memory) address

-- the stack and the context by which the thread of an exception is walked, which the list lacks: the
-- memory at the stack pointer of the exception's context is its stack
abbrev pub exception_walked : ContentsValue → ℕ → Exception → Option (StackValue × MinidumpContext)
exception_walked c bits e = option_and_then (λ p. option_map
    (λ f. (stack_in p (memory_at p.memory (stack_pointer_in f.raw)), context_of f)) (context_at c e))
    (process_in c bits (Some e))

-- a walk of a stack, with the module of each frame
abbrev pub walk_on : StackValue → WalkValue → CrashWalkValue
walk_on s w = record {
  frames = map (frame_in s) w.frames;
  candidates = map (frame_in s) w.candidates;
  end = w.end;
}

-- what is found in a stack by a context, with at most so many candidates
abbrev pub walk_from : ℕ → StackValue × MinidumpContext → CrashWalkValue
walk_from scan w = walk_on w.0 (walk_in w.0 w.1 scan)
