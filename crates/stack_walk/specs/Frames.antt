-- The frames of a thread: that of its context, its callers by the frame records that the stack
-- holds, and the link register and the words of the stack that may be return addresses.
use Rattle.std.specs.Prelude.{◌≡◌, ℕ, ◌+◌, ◌-◌, ◌*◌, ◌/◌, ◌==◌, max, min, nat_lt, ◌&&◌, not, Bool}
use Rattle.std.specs.Prelude.{List, [], ◌∷◌, ◌++◌, codes, length, take, slice_get, Option, Some, None}
use Rattle.std.specs.Prelude.{zero, suc, true, false, if◌then◌else◌, unwrap_or}
use Rattle.std.specs.Int.{div_ceil}
use Rattle.std.specs.List.{cons_option, filter, filter_map, range_with_len}
use Rattle.std.specs.Option.{option_and_then, option_map, option_map_or}
use Rattle.minidump.specs.declared.MinidumpContext.{MinidumpContext}
use Rattle.minidump.specs.declared.MinidumpRawContext.{MinidumpRawContext}
use Rattle.minidump.specs.declared.MinidumpRawContext.TheVariants.{X86, Amd64, Arm, Arm64, OldArm64}
use Rattle.minidump.specs.declared.system_info.Cpu.{Cpu}
use Rattle.minidump.specs.declared.system_info.PointerWidth.{PointerWidth}
use Rattle.minidump.specs.declared.system_info.PointerWidth.TheVariants.{Bits32, Bits64, Unknown}
use Rattle.minidump.specs.Below.Bytes.Layout.{number_layout}
use Rattle.minidump.specs.Below.Contexts.Context.{registers_of, valid_value_in, value_in}
use Rattle.minidump.specs.Below.MemoryLists.Memory.{number_in}
use Rattle.minidump.specs.Below.MemoryLists.Unified.{UnifiedRegion, UnifiedRegions, unified_list}
use Rattle.minidump.specs.Below.MemoryLists.Unified.{unified_region}
use Rattle.minidump.specs.Below.MemoryLists.UnifiedInfo.{InfoRegion, info_list, info_regions}
use Rattle.minidump.specs.Below.Modules.Module.{ModuleValue}
use Rattle.minidump.specs.Below.Modules.ModuleList.{module_list_of}
use Rattle.minidump.specs.Below.System.Cpu.{pointer_bytes}
use Rattle.stack_walk.specs.declared.frame.FrameTrust.{FrameTrust}
use Rattle.stack_walk.specs.declared.frame.FrameTrust.TheVariants.{Context, Cfi, FramePointer, Scan, Link}
use Rattle.stack_walk.specs.declared.frame.StackFrame.{StackFrame}
use Rattle.stack_walk.specs.declared.stack.Stack.{Stack}
use Rattle.stack_walk.specs.Addresses.{address_after, unmarked, unsigned}
use Rattle.stack_walk.specs.Lookups.{call_site, has_code, is_past_headers, may_be_run, may_end_call}

-- a stack: the region of memory that holds it, if the dump has one, the modules, the memory, what
-- is known of that, the processor, the width of an address, and how many of the low bits of a
-- return address are its address
pub record StackValue : Type 0 where
  pub region : Option UnifiedRegion
  pub modules : List ModuleValue
  pub memory : UnifiedRegions
  pub infos : List InfoRegion
  pub cpu : Cpu
  pub width : PointerWidth
  pub code_bits : ℕ

-- the stack of a `Stack`, as its fields have it
abbrev pub stack_of : Stack → StackValue
stack_of s = record {
  region = option_map unified_region s.memory;
  modules = module_list_of s.modules.now;
  memory = unified_list s.code.now;
  infos = info_regions (info_list s.infos.now);
  cpu = s.cpu;
  width = s.width;
  code_bits = s.code_bits;
}

-- the word of a region at an address, as wide as an address
abbrev pub pointer_in : PointerWidth → UnifiedRegion → ℕ → Option ℕ
pointer_in Bits32 region address = number_in (number_layout 4) region address
pointer_in Bits64 region address = number_in (number_layout 8) region address
pointer_in Unknown region address = None

-- the word that a stack holds at an address
abbrev pub pointer_at : StackValue → ℕ → Option ℕ
pointer_at s address = option_and_then (λ region. pointer_in s.width region address) s.region

-- the return address that it holds there, without the bits that may sign it
abbrev pub return_at : StackValue → ℕ → Option ℕ
return_at s address = option_map (unsigned s.code_bits) (pointer_at s address)

-- the bytes of a stack
abbrev pub stack_bytes : StackValue → List ℕ
stack_bytes s = option_map_or (λ region. region.bytes) s.region []

-- ---- the frame of the context

-- the name of the register that holds the frame pointer
abbrev pub frame_register : MinidumpRawContext → List ℕ
frame_register (X86 c) = codes "ebp"
frame_register (Amd64 c) = codes "rbp"
frame_register (Arm c) = codes "fp"
frame_register (Arm64 c) = codes "fp"
frame_register (OldArm64 c) = codes "fp"

-- the instruction pointer and the stack pointer of a context, which each has
abbrev pub instruction_pointer_in : MinidumpRawContext → ℕ
instruction_pointer_in raw =
    unwrap_or (value_in (registers_of raw) (registers_of raw).instruction_pointer) 0

abbrev pub stack_pointer_in : MinidumpRawContext → ℕ
stack_pointer_in raw = unwrap_or (value_in (registers_of raw) (registers_of raw).stack_pointer) 0

-- the frame of a context, by its registers
abbrev pub context_frame : MinidumpContext → StackFrame
context_frame c = record {
  instruction = instruction_pointer_in c.raw;
  stack_pointer = stack_pointer_in c.raw;
  frame_pointer = valid_value_in c.valid (registers_of c.raw) (frame_register c.raw);
  trust = Context;
}

-- whether a processor has a link register: the return address of a function that hasn't saved it
abbrev pub has_link : MinidumpRawContext → Bool
has_link (X86 c) = false
has_link (Amd64 c) = false
has_link _ = true

-- the link register of a context
abbrev pub link_in : MinidumpContext → Option ℕ
link_in c = if has_link c.raw then valid_value_in c.valid (registers_of c.raw) (codes "lr")
    else None

-- ---- the callers of a frame of any kind, from each frame to its caller

module _ {F : Type 0} (caller_by : F → Option F) where
  -- these are the callers of a frame, the innermost first: each is the caller of the one before it.
  -- The last of the frame and these is `last`, which has no caller
  abbrev pub AreCallers : F → List F → F → Type 0
  AreCallers f [] last = (caller_by f ≡ None) × (last ≡ f)
  AreCallers f (g ∷ gs) last = (caller_by f ≡ Some g) × AreCallers g gs last

  -- the callers of a frame, the innermost first, or as many of them as this number
  unfoldable pub callers_of : ℕ → F → List F
  callers_of zero f = []
  callers_of (suc n) f = option_map_or (λ caller. caller ∷ callers_of n caller) (caller_by f) []

-- the last of a frame and its callers
abbrev pub outermost : {F : Type 0} → F → List F → F
outermost f [] = f
outermost f (caller ∷ callers) = outermost caller callers

-- ---- callers, by frame pointers

-- the frame to which the record at an address returns. A record is two words: the saved frame
-- pointer, which the frame has without the mark of Swift, and the return address. None where no
-- address lies after it, or no code is known to be where the call is
unfoldable pub caller_at : StackValue → ℕ → ℕ → Option StackFrame
caller_at s size address = option_and_then
    (λ after. option_and_then (λ saved. option_and_then (λ return_address. option_and_then
    (λ call. if has_code s.modules s.infos call
    then Some (record {
      instruction = return_address;
      stack_pointer = after;
      frame_pointer = Some (unmarked saved);
      trust = FramePointer;
    })
    else None) (call_site s.cpu return_address)) (return_at s (address + size)))
    (pointer_at s address)) (address_after s.width address (2 * size))

-- where the record of a frame stands: at its frame pointer without the mark of Swift, which that of
-- a context, or one that rules give, may have
abbrev pub record_of : StackFrame → Option ℕ
record_of f = option_map unmarked f.frame_pointer

-- the caller of a frame: that of its record, which stands at or above its stack pointer. On x86 and
-- x86-64 a function pushes the frame pointer and points it to what it pushed, where the stack
-- pointer is then; on ARM and ARM64 the record lies in the function's own frame. Later the stack
-- pointer only falls. The stack pointer of a caller is the address after the record that leads to
-- it (on ARM64 the lowest that it can be), so that records neither overlap nor stand in a circle
abbrev pub caller_of : StackValue → StackFrame → Option StackFrame
caller_of s f = option_and_then (λ size. option_and_then (λ address.
    if nat_lt address f.stack_pointer then None else caller_at s size address) (record_of f))
    (pointer_bytes s.width)

-- ---- candidates, by the words of the stack

-- whether the last byte of a call may stand at an address: where the memory may be run, and by the
-- bytes there, if the dump has them
abbrev pub may_hold_call : StackValue → ℕ → Bool
may_hold_call s call = may_be_run s.infos call && may_end_call s.cpu s.memory call

-- the candidate of an aligned word, by its number, how many words lie below it in the address
-- space: the frame whose return address the word may be, if a call before that may end, past the
-- headers of a module. None where no address lies after the word
unfoldable pub word_candidate : StackValue → ℕ → Option StackFrame
word_candidate s number = option_and_then (λ size. option_and_then (λ after. option_and_then
    (λ return_address. option_and_then
    (λ call. if is_past_headers s.modules s.infos call && may_hold_call s call
    then Some (record {
      instruction = return_address;
      stack_pointer = after;
      frame_pointer = None;
      trust = Scan;
    })
    else None) (call_site s.cpu return_address)) (return_at s (number * size)))
    (address_after s.width (number * size) size)) (pointer_bytes s.width)

-- the candidates of aligned words, in their order: of as many as the second number says from the
-- first on
abbrev pub word_candidates : StackValue → ℕ × ℕ → List StackFrame
word_candidates s words = filter_map (word_candidate s) (range_with_len words.0 words.1)

-- the number of the first aligned word of a stack at or above an address, and at most how many
-- words the stack has from there
abbrev pub words_from : StackValue → ℕ → ℕ × ℕ
words_from s from = option_map_or (λ region. option_map_or
    (λ size. (div_ceil (max from region.base_address) size, length region.bytes / size))
    (pointer_bytes s.width) (0, 0)) s.region (0, 0)

-- the aligned words of a stack from an address on that lie below another
abbrev pub words_between : StackValue → ℕ → ℕ → ℕ × ℕ
words_between s from until = let words = words_from s from in (
  words.0,
  min words.1
      (option_map_or (λ size. until / size) (pointer_bytes s.width) 0 - words.0),
)

-- the address of a frame's record, where its caller is by that
abbrev pub record_by : FrameTrust → StackFrame → Option ℕ
record_by FramePointer f = record_of f
record_by _ f = None

-- the words of the first frame of a walk below its record, where its caller is by that: a function
-- without a record of its own has the frame pointer of a caller further out, and the return
-- addresses between them stand there
unfoldable pub words_below : StackValue → List StackFrame → ℕ × ℕ
words_below s (first ∷ caller ∷ callers) = option_map_or (words_between s first.stack_pointer)
    (record_by caller.trust first) (0, 0)
words_below s _ = (0, 0)

-- the words from the stack pointer of the last frame of a walk on
abbrev pub words_above : StackValue → List StackFrame → ℕ × ℕ
words_above s frames = option_map_or (λ last. words_from s last.stack_pointer)
    (slice_get frames (length frames - 1)) (0, 0)

-- ---- the candidate of the link register

-- whether a frame is found by rules, which say where the return address of a frame is
abbrev pub is_by_rules : FrameTrust → Bool
is_by_rules Cfi = true
is_by_rules _ = false

-- whether a walk lacks the frame with a return address after its first frame: the caller of that,
-- if there is one, isn't found by rules, and has another return address
abbrev pub lacks : List StackFrame → ℕ → Bool
lacks frames address = option_map_or
    (λ caller. not (is_by_rules caller.trust) && not (caller.instruction == address))
    (slice_get frames 1) true

-- the candidate of the link register of a walk's context, if it has one: the frame that the first
-- one may return to. The walk lacks its return address, and code is known to be at the call before
-- it, which may end there. It has the pointers of the first one: its stack pointer is that or a
-- higher one
unfoldable pub link_candidate : StackValue → Option ℕ → List StackFrame → Option StackFrame
link_candidate s link frames = option_and_then
    (λ word. let address = unsigned s.code_bits word in option_and_then
    (λ first. option_and_then
    (λ call. if lacks frames address
    && (has_code s.modules s.infos call && may_hold_call s call)
    then Some (record {
      instruction = address;
      stack_pointer = first.stack_pointer;
      frame_pointer = first.frame_pointer;
      trust = Link;
    })
    else None) (call_site s.cpu address)) (slice_get frames 0)) link

-- ---- all candidates

-- of frames with one return address the first
abbrev pub firsts : List StackFrame → List StackFrame
firsts [] = []
firsts (f ∷ frames) = f ∷ filter (λ g. not (f.instruction == g.instruction)) (firsts frames)

-- the candidates of a walk with this link register and these frames, each return address once and
-- at most so many: that of the link register, those of the words of the first frame below its
-- record, and then those from the last frame's stack pointer on
abbrev pub scan : StackValue → Option ℕ → List StackFrame → ℕ → List StackFrame
scan s link frames limit = take limit (firsts ((cons_option (link_candidate s link frames) []
    ++ word_candidates s (words_below s frames)) ++ word_candidates s (words_above s frames)))

-- ---- both

-- the frames of a context: its own, its callers, and the candidates of these, at most so many
pub record AreFrames (s : StackValue) (c : MinidumpContext) (limit : ℕ)
    (frames : List StackFrame) : Type 0 where
  pub callers : List StackFrame
  pub last : StackFrame
  pub are_callers : AreCallers (caller_of s) (context_frame c) callers last
  pub whole : frames
      ≡ (context_frame c ∷ callers) ++ scan s (link_in c) (context_frame c ∷ callers) limit
