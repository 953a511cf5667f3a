-- Without symbols a walk is that by frame pointers.
use Rattle.std.proofs.Common.{◌≡◌, ℕ, List, [], ◌∷◌, Bool, false, Option, Some, None, refl, ap, arith}
use Rattle.std.specs.List.{find}
use Rattle.std.specs.Option.{option_and_then, option_map, option_map_or}
use Rattle.minidump.specs.Below.Modules.Module.{ModuleValue}
use Rattle.minidump.specs.Below.System.Cpu.{pointer_bytes}
use Rattle.stack_walk.specs.declared.frame.StackFrame.{StackFrame}
use Rattle.stack_walk.specs.Frames.{AreCallers, outermost, word_candidates}
use Rattle.stack_walk.specs.Frames.{caller_of as pointer_caller}
use Rattle.stack_walk.specs.Lookups.{lookup_address}
use Rattle.stack_walk.specs.Walk.{callers_in as pointer_callers}
use Rattle.stack_walk.proofs.CallerLemmas.{callers_are}
use Rattle.breakpad_symbols.specs.SymbolFile.{SymbolsValue}
use Rattle.symbol_walk.specs.Rules.{rules_at}
use Rattle.symbol_walk.specs.Symbols.{HaveNone, symbols_at}
use Rattle.symbol_walk.specs.Unwinder.{FrameValue, UnwinderValue, pointer_frame}
use Rattle.symbol_walk.specs.Walk.{caller_by_rules, caller_of, callers_in, end_by_rules, in_function, next_words, plain_frames, restart_of, restarts}
use Rattle.symbol_walk.proofs.ReachLemmas.{are_callers}

no_symbols : (modules : List ModuleValue) (symbols : List (Option SymbolsValue)) (address : ℕ) → HaveNone symbols → symbols_at modules symbols address ≡ None
unfolding symbols_at
no_symbols modules symbols address none = grind (arith, none)

pub no_rules : (u : UnwinderValue) (f : FrameValue) → HaveNone u.symbols → rules_at u f ≡ None
unfolding rules_at
no_rules u f none = grind (arith, no_symbols)

not_called : (u : UnwinderValue) (o : Option ℕ) → HaveNone u.symbols → option_map_or (in_function u) o false ≡ false
unfolding in_function
not_called u o none = grind (arith, no_symbols)

none_then : {A B : Type 0} (f : A → Option B) (o : Option A) → ((x : A) → f x ≡ None) → option_and_then f o ≡ None
none_then f None none = refl
none_then f (Some x) none = none x

find_none : {X : Type 0} (test : X → Bool) (xs : List X) → ((x : X) → test x ≡ false) → find test xs ≡ None
find_none test [] fails = refl
find_none test (x ∷ xs) fails = rw (fails x) (find_none test xs fails)

no_restart : (u : UnwinderValue) (f : StackFrame) → HaveNone u.symbols → restart_of u f ≡ None
unfolding restart_of restarts
no_restart u f none =
    none_then (λ size. find (restarts u f) (word_candidates u.stack (next_words f size))) (pointer_bytes u.stack.width)
    (λ size. find_none (restarts u f) (word_candidates u.stack (next_words f size))
    (λ candidate. rw (not_called u (lookup_address u.stack.cpu candidate) none) (grind arith)))

-- the caller is that by the frame pointer
caller_is : (u : UnwinderValue) (f : FrameValue) → HaveNone u.symbols → caller_of u f ≡ option_map (pointer_frame u) (pointer_caller u.stack f.frame)
unfolding caller_of caller_by_rules end_by_rules
caller_is u f none = (let rules = no_rules u f none in let restart = no_restart u f.frame none in rw (rules, restart) (grind arith))

as_pointers : (u : UnwinderValue) (f : FrameValue) (gs : List FrameValue) (last : FrameValue) → HaveNone u.symbols
    → AreCallers (caller_of u) f gs last → AreCallers (pointer_caller u.stack) f.frame (plain_frames gs) last.frame
as_pointers u f [] last none are = (grind (arith, caller_is u f none, are.0), ap (λ (g : FrameValue). g.frame) are.1)
as_pointers u f (g ∷ gs) last none are = (grind (arith, caller_is u f none, are.0), as_pointers u g gs last none are.1)

-- the frames from one on, and the last of them
pub pointers_alone : (u : UnwinderValue) (first : FrameValue) → HaveNone u.symbols
    → (plain_frames (first ∷ callers_in u first) ≡ first.frame ∷ pointer_callers u.stack first.frame)
    × ((outermost first (callers_in u first)).frame ≡ outermost first.frame (pointer_callers u.stack first.frame))
pointers_alone u first none =
    let callers = callers_in u first in
    let last = outermost first callers in
    let is = callers_are u.stack first.frame (plain_frames callers) last.frame (as_pointers u first callers last none (are_callers u first)) in
    (ap (λ (gs : List StackFrame). first.frame ∷ gs) is.0, is.1)
