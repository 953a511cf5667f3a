-- The walk of a context by the symbols of its process, as a function of its stack.
use Rattle.std.specs.Prelude.{ℕ, ◌+◌, ◌&&◌, Bool, false, List, ◌∷◌, length, map, is_some, Option, Some}
use Rattle.std.specs.Prelude.{None, if◌then◌else◌, unwrap_or}
use Rattle.std.specs.Int.{div_ceil}
use Rattle.std.specs.List.{find}
use Rattle.std.specs.Option.{option_and_then, option_map, option_map_or, option_or}
use Rattle.minidump.specs.declared.MinidumpContext.{MinidumpContext}
use Rattle.minidump.specs.Below.System.Cpu.{pointer_bytes}
use Rattle.stack_walk.specs.declared.end.WalkEnd.{WalkEnd}
use Rattle.stack_walk.specs.declared.frame.FrameTrust.{FrameTrust}
use Rattle.stack_walk.specs.declared.frame.FrameTrust.TheVariants.{Context}
use Rattle.stack_walk.specs.declared.frame.StackFrame.{StackFrame}
use Rattle.stack_walk.specs.Frames.{StackValue, callers_of, link_in, outermost, scan, stack_bytes}
use Rattle.stack_walk.specs.Frames.{word_candidate, word_candidates}
use Rattle.stack_walk.specs.Frames.{caller_of as pointer_caller}
use Rattle.stack_walk.specs.Lookups.{lookup_address}
use Rattle.stack_walk.specs.Walk.{WalkValue, walk_end}
use Rattle.breakpad_symbols.specs.SymbolFile.{SymbolsValue}
use Rattle.symbol_walk.specs.Registers.{register_table}
use Rattle.symbol_walk.specs.Rules.{caller_by, end_by, goes_on, rules_at}
use Rattle.symbol_walk.specs.Symbols.{function_at, symbols_at}
use Rattle.symbol_walk.specs.Unwinder.{FrameValue, UnwinderValue, first_frame, pointer_frame}

-- ---- where a walk starts again: at a candidate whose call lies in a function of the symbols

-- how many words from the stack pointer of a frame on are looked at
abbrev pub scanned_words : FrameTrust → ℕ
scanned_words Context = 40
scanned_words _ = 30

-- whether a function of the symbols has an address
unfoldable pub in_function : UnwinderValue → ℕ → Bool
in_function u address = option_map_or (λ p. is_some (function_at p.0 p.1))
    (symbols_at u.stack.modules u.symbols address) false

-- whether the call of a candidate lies in a function of the symbols
abbrev pub is_called : UnwinderValue → StackFrame → Bool
is_called u candidate =
    option_map_or (in_function u) (lookup_address u.stack.cpu candidate) false

-- whether the walk goes on from a candidate after a frame: the stack goes on at the candidate's
-- stack pointer, and its call lies in a function
unfoldable pub restarts : UnwinderValue → StackFrame → StackFrame → Bool
restarts u f candidate = goes_on u.stack f candidate.stack_pointer && is_called u candidate

-- the candidate of an aligned word, by its number, if the walk goes on from it
abbrev pub restart_at : UnwinderValue → StackFrame → ℕ → Option StackFrame
restart_at u f number = option_and_then
    (λ candidate. if restarts u f candidate then Some candidate else None)
    (word_candidate u.stack number)

-- the aligned words that are looked at, where an address has so many bytes: those from the stack
-- pointer of a frame on
abbrev pub next_words : StackFrame → ℕ → ℕ × ℕ
next_words f size = (div_ceil f.stack_pointer size, scanned_words f.trust)

-- the first candidate among the next words of a frame from which the walk goes on
unfoldable pub restart_of : UnwinderValue → StackFrame → Option StackFrame
restart_of u f = option_and_then (λ size. find (restarts u f)
    (word_candidates u.stack (next_words f size))) (pointer_bytes u.stack.width)

-- ---- the caller of a frame

-- why the walk ends by the rules of a frame
unfoldable pub end_by_rules : UnwinderValue → FrameValue → Option WalkEnd
end_by_rules u f = option_and_then end_by (rules_at u f)

-- the caller of a frame by its rules
unfoldable pub caller_by_rules : UnwinderValue → FrameValue → Option FrameValue
caller_by_rules u f = option_and_then (caller_by u f.frame) (rules_at u f)

-- the caller by the frame pointer, or else the candidate from which the walk starts again
abbrev pub caller_without : UnwinderValue → FrameValue → Option FrameValue
caller_without u f = option_map (pointer_frame u)
    (option_or (pointer_caller u.stack f.frame) (restart_of u f.frame))

-- the caller of a frame: by its rules, or else without them; none where rules end the walk
unfoldable pub caller_of : UnwinderValue → FrameValue → Option FrameValue
caller_of u f = if is_some (end_by_rules u f) then None
    else option_or (caller_by_rules u f) (caller_without u f)

-- why a frame has no caller: by its rules, or else by its frame pointer
abbrev pub end_of : UnwinderValue → FrameValue → WalkEnd
end_of u f = unwrap_or (end_by_rules u f) (walk_end u.stack f.frame)

-- ---- the callers

-- the callers of a frame, the innermost first. Each has a stack pointer of its own: an address of
-- the stack, or the one after it
abbrev pub callers_in : UnwinderValue → FrameValue → List FrameValue
callers_in u = callers_of (caller_of u) (length (stack_bytes u.stack) + 1)

-- ---- the walk

-- the frames without their registers
abbrev pub plain_frames : List FrameValue → List StackFrame
plain_frames frames = map (λ f. f.frame) frames

-- the walk from a frame with this link register: it and its callers, the candidates of these, at
-- most so many, and why there is no further caller
abbrev pub walk_from : UnwinderValue → FrameValue → Option ℕ → ℕ → WalkValue
walk_from u first link limit =
    let callers = callers_in u first in record {
      frames = plain_frames (first ∷ callers);
      candidates = scan u.stack link (plain_frames (first ∷ callers)) limit;
      end = end_of u (outermost first callers);
    }

-- the walk of a context on a stack, by the symbols of the modules
abbrev pub symbol_walk_in : StackValue → List (Option SymbolsValue) → MinidumpContext → ℕ → WalkValue
symbol_walk_in s symbols c limit =
    walk_from (record { stack = s; symbols = symbols; registers = register_table c.raw })
    (first_frame c) (link_in c) limit
