-- The evidence of a frame: its return address stands in the stack, right below its stack pointer,
-- or is the link register. And which frame is the candidate of the link register.
use Rattle.std.specs.Prelude.{◌≡◌, ◌≢◌, ◌⊎◌, ℕ, ◌-◌, nat_le, IsTrue, List, Option, Some, None}
use Rattle.std.specs.Prelude.{slice_get, if◌then◌else◌}
use Rattle.std.specs.Option.{option_and_then, option_map}
use Rattle.minidump.specs.declared.MinidumpContext.{MinidumpContext}
use Rattle.minidump.specs.declared.system_info.PointerWidth.{PointerWidth}
use Rattle.minidump.specs.Below.System.Cpu.{pointer_bytes}
use Rattle.stack_walk.specs.declared.frame.FrameTrust.{FrameTrust}
use Rattle.stack_walk.specs.declared.frame.FrameTrust.TheVariants.{Cfi, FramePointer, Scan, Link}
use Rattle.stack_walk.specs.declared.frame.StackFrame.{StackFrame}
use Rattle.stack_walk.specs.Addresses.{unsigned}
use Rattle.stack_walk.specs.Frames.{StackValue, link_in, may_hold_call, return_at}
use Rattle.stack_walk.specs.Lookups.{call_site, has_code}

-- the address of the word below the stack pointer of a caller or a candidate: none of a context,
-- nor of a frame by rules, whose return address may stand elsewhere or in a register, nor of that
-- of the link register
abbrev pub word_below : FrameTrust → ℕ → ℕ → Option ℕ
word_below FramePointer stack_pointer size = if nat_le size stack_pointer
    then Some (stack_pointer - size) else None
word_below Scan stack_pointer size = if nat_le size stack_pointer then Some (stack_pointer - size)
    else None
word_below _ stack_pointer size = None

-- the address at which the return address of a frame stands: none of a context, of a frame by
-- rules, or of that of the link register
abbrev pub evidence_address : PointerWidth → StackFrame → Option ℕ
evidence_address width f = option_and_then (word_below f.trust f.stack_pointer)
    (pointer_bytes width)

-- a frame has its evidence: at that address the stack has a word that is its return address,
-- without the bits that may sign it
abbrev pub HasEvidence : StackValue → StackFrame → Type 0
HasEvidence s f = option_and_then (return_at s) (evidence_address s.width f) ≡ Some f.instruction

-- a frame is that of the link register of a context: its return address is that register, without
-- the bits that may sign it
abbrev pub IsFromLink : StackValue → MinidumpContext → StackFrame → Type 0
IsFromLink s c f =
    (f.trust ≡ Link) × (option_map (unsigned s.code_bits) (link_in c) ≡ Some f.instruction)

-- the return address of a frame stands in the stack, or is the link register of a context
abbrev pub IsShown : StackValue → MinidumpContext → StackFrame → Type 0
IsShown s c f = HasEvidence s f ⊎ IsFromLink s c f

-- a frame is the candidate of the link register of a walk with these frames: its return address is
-- the register, without the bits that may sign it; its pointers are those of the first frame; a
-- call may return to it, whose last byte lies where code is known to be and may stand there; and the
-- first caller, if there is one, isn't found by rules and has another return address
pub record IsLinkCandidate (s : StackValue) (link : Option ℕ) (frames : List StackFrame)
    (f : StackFrame) : Type 0 where
  pub first : StackFrame
  pub call : ℕ
  pub is_return : option_map (unsigned s.code_bits) link ≡ Some f.instruction
  pub is_first : slice_get frames 0 ≡ Some first
  pub stack_pointer : f.stack_pointer ≡ first.stack_pointer
  pub frame_pointer : f.frame_pointer ≡ first.frame_pointer
  pub trust : f.trust ≡ Link
  pub is_call : call_site s.cpu f.instruction ≡ Some call
  pub at_code : IsTrue (has_code s.modules s.infos call)
  pub may_hold : IsTrue (may_hold_call s call)
  pub is_other : (caller : StackFrame) → slice_get frames 1 ≡ Some caller
      → (caller.trust ≢ Cfi) × (caller.instruction ≢ f.instruction)
