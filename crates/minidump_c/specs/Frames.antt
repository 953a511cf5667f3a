-- The frames of a thread, as rows.
use Rattle.std.specs.Prelude.{ℕ, ◌++◌, List, map, unwrap_or}
use Rattle.std.specs.Option.{option_map}
use Rattle.crash_threads.specs.Frames.{CrashWalkValue}
use Rattle.crash_threads.specs.declared.frames.CrashFrame.{CrashFrame}
use Rattle.stack_walk.specs.declared.end.WalkEnd.{WalkEnd}
use Rattle.stack_walk.specs.declared.end.WalkEnd.TheVariants as end
use Rattle.stack_walk.specs.declared.frame.FrameTrust.{FrameTrust}
use Rattle.stack_walk.specs.declared.frame.FrameTrust.TheVariants as trust
use Rattle.minidump_c.specs.declared.frames.FrameRow.{FrameRow}
use Rattle.minidump_c.specs.Spans.{flag}

-- the numbers of what a frame is known by
abbrev pub trust_number : FrameTrust → ℕ
trust_number trust.Context = 1
trust_number trust.FramePointer = 2
trust_number trust.Scan = 3
trust_number trust.Cfi = 4
trust_number trust.Link = 5

-- the numbers of why the last frame has no caller
abbrev pub end_number : WalkEnd → ℕ
end_number end.NoMemory = 1
end_number end.UnknownWidth = 2
end_number end.NoFramePointer = 3
end_number end.ZeroFramePointer = 4
end_number end.BelowStackPointer = 5
end_number end.NoRecord = 6
end_number end.NoCode = 7
end_number end.NoReturnRule = 8
end_number end.ZeroReturnAddress = 9

-- a frame's numbers: 0 for what it lacks, and its instruction where it has no address
abbrev pub frame_row : CrashFrame → FrameRow
frame_row f = record {
  address = unwrap_or f.address f.instruction;
  instruction = f.instruction;
  stack_pointer = f.stack_pointer;
  frame_pointer = unwrap_or f.frame_pointer 0;
  «module» = unwrap_or (option_map (λ p. p.0) f.module) 0;
  module_offset = unwrap_or (option_map (λ p. p.1) f.module) 0;
  trust = trust_number f.trust;
  has_frame_pointer = flag f.frame_pointer;
  has_module = flag f.module;
}

-- the frames of a walk, and then its candidates
abbrev pub frame_rows : CrashWalkValue → List FrameRow
frame_rows w = map frame_row w.frames ++ map frame_row w.candidates
