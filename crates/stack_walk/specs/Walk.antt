-- The walk of a context as a function of its stack, and why the last frame of a walk has no caller.
use Rattle.std.specs.Prelude.{ℕ, ◌+◌, ◌*◌, ◌/◌, ◌==◌, ◌&&◌, Bool, is_none, is_some, nat_lt, List, ◌∷◌}
use Rattle.std.specs.Prelude.{◌++◌, length, if◌then◌else◌}
use Rattle.std.specs.Option.{option_map_or}
use Rattle.minidump.specs.declared.MinidumpContext.{MinidumpContext}
use Rattle.minidump.specs.Below.System.Cpu.{pointer_bytes}
use Rattle.stack_walk.specs.declared.end.WalkEnd.{WalkEnd}
use Rattle.stack_walk.specs.declared.end.WalkEnd.TheVariants.{NoMemory, UnknownWidth}
use Rattle.stack_walk.specs.declared.end.WalkEnd.TheVariants.{NoFramePointer, ZeroFramePointer}
use Rattle.stack_walk.specs.declared.end.WalkEnd.TheVariants.{BelowStackPointer, NoRecord, NoCode}
use Rattle.stack_walk.specs.declared.frame.StackFrame.{StackFrame}
use Rattle.stack_walk.specs.declared.walk.Walk.{Walk}
use Rattle.stack_walk.specs.Addresses.{address_after}
use Rattle.stack_walk.specs.Frames.{StackValue, caller_of, callers_of, context_frame, link_in}
use Rattle.stack_walk.specs.Frames.{outermost, pointer_at, record_of, scan, stack_bytes}

-- the callers of a frame, the innermost first. Each takes eight bytes of the stack at least
abbrev pub callers_in : StackValue → StackFrame → List StackFrame
callers_in s = callers_of (caller_of s) (length (stack_bytes s) / 8)

-- ---- the end

-- whether a stack holds both words of a record at an address, and an address lies after it
abbrev pub has_record : StackValue → ℕ → ℕ → Bool
has_record s size address = is_some (address_after s.width address (2 * size))
    && (is_some (pointer_at s address) && is_some (pointer_at s (address + size)))

-- why a frame whose record would stand at this address has no caller
abbrev pub end_at : StackValue → StackFrame → ℕ → ℕ → WalkEnd
end_at s f size address =
    if address == 0 then ZeroFramePointer
    else (if nat_lt address f.stack_pointer then BelowStackPointer
    else (if has_record s size address then NoCode else NoRecord))

-- why a frame has no caller by its frame pointer: the first of these reasons that holds
abbrev pub walk_end : StackValue → StackFrame → WalkEnd
walk_end s f = if is_none s.region then NoMemory
    else option_map_or (λ size. option_map_or (end_at s f size) (record_of f) NoFramePointer)
    (pointer_bytes s.width) UnknownWidth

-- ---- the walk

-- a walk: the frames, the candidates, and why the last of the frames has no caller
pub record WalkValue : Type 0 where
  pub frames : List StackFrame
  pub candidates : List StackFrame
  pub end : WalkEnd

-- the walk of a `Walk`, as its fields have it
abbrev pub walk_of : Walk → WalkValue
walk_of w = record {
  frames = w.frames.items;
  candidates = w.candidates.items;
  end = w.end;
}

-- the walk of a context: its frame and the callers, the candidates of these, at most so many, and
-- why there is no further caller
abbrev pub walk_in : StackValue → MinidumpContext → ℕ → WalkValue
walk_in s c limit =
    let callers = callers_in s (context_frame c) in record {
      frames = context_frame c ∷ callers;
      candidates = scan s (link_in c) (context_frame c ∷ callers) limit;
      end = walk_end s (outermost (context_frame c) callers);
    }

-- all frames of a walk, the candidates last
abbrev pub all_frames : WalkValue → List StackFrame
all_frames w = w.frames ++ w.candidates

-- the frames of a context, and then the candidates
abbrev pub frames_in : StackValue → MinidumpContext → ℕ → List StackFrame
frames_in s c limit = all_frames (walk_in s c limit)
