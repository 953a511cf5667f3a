-- The caller of a frame stands on the stack, above it, or for a context's frame at it: so each frame has one list of callers.
use Rattle.std.proofs.Common.{◌≡◌, ℕ, suc, ◌+◌, ◌-◌, ◌<◌, ◌≤◌, ◌⊎◌, inl, inr, List, [], ◌∷◌, length, Option, Some, None, Bool, true, false, refl, arith}
use Rattle.std.specs.Prelude.{All, cond, ◌↔◌, if◌then◌else◌}
use Rattle.std.specs.List.{find, range_with_len}
use Rattle.std.proofs.lemmas.Bool.Decides.{nat_tests}
use Rattle.std.proofs.lemmas.Bool.{and_parts}
use Rattle.std.proofs.lemmas.List.Elements.{All-head, All-tail}
use Rattle.std.proofs.lemmas.Option.{option_and_then_some, same_Some}
use Rattle.minidump.specs.Below.System.Cpu.{pointer_bytes}
use Rattle.stack_walk.specs.declared.frame.FrameTrust.TheVariants.{Cfi, Scan}
use Rattle.stack_walk.specs.declared.frame.StackFrame.{StackFrame}
use Rattle.stack_walk.specs.Addresses.{address_after}
use Rattle.stack_walk.specs.Frames.{AreCallers, StackValue, outermost, stack_bytes, word_candidate, word_candidates}
use Rattle.stack_walk.specs.Frames.{caller_of as pointer_caller}
use Rattle.stack_walk.proofs.CallerLemmas.{are_all, are_only, base_of, by_pointer, climbs, end_of}
use Rattle.stack_walk.proofs.FoundLemmas.{all_given}
use Rattle.symbol_walk.specs.Registers.{known_by}
use Rattle.symbol_walk.specs.Rules.{IsByRules, caller_by, caller_value, caller_with, goes_on, is_of_context, returns, rules_at}
use Rattle.symbol_walk.specs.Unwinder.{FrameValue, UnwinderValue}
use Rattle.symbol_walk.specs.Walk.{caller_by_rules, caller_of, callers_in, is_called, next_words, restart_at, restart_of, restarts}

-- where the caller of a frame stands: on the stack, above the frame, or for a context's frame at it
pub record Reached (u : UnwinderValue) (f g : StackFrame) : Type 0 where
  pub low : base_of u.stack ≤ g.stack_pointer
  pub high : g.stack_pointer ≤ end_of u.stack
  pub above : f.stack_pointer ≤ g.stack_pointer
  pub more : is_of_context f.trust ≡ false → f.stack_pointer < g.stack_pointer
  pub found : is_of_context g.trust ≡ false

-- where the stack of a frame goes on
goes : (u : UnwinderValue) (f g : StackFrame) → goes_on u.stack f g.stack_pointer ≡ true → is_of_context g.trust ≡ false → Reached u f g
unfolding goes_on
goes u f g e found = record {
  low = grind (arith, nat_tests);
  high = grind (arith, nat_tests);
  above = grind (arith, nat_tests);
  more = λ other. grind (arith, nat_tests);
  found = found;
}

-- ---- the three kinds of callers

by_rules : (u : UnwinderValue) (f g : FrameValue) → caller_by_rules u f ≡ Some g
    → (goes_on u.stack f.frame g.frame.stack_pointer ≡ true) × (g.frame.trust ≡ Cfi)
unfolding caller_by_rules
by_rules u f g e = grind arith

scanned : (s : StackValue) (number : ℕ) (f : StackFrame) → word_candidate s number ≡ Some f → f.trust ≡ Scan
unfolding word_candidate address_after
scanned s number f e = grind arith

-- what is found is of a kind that all are, and passes the test
found_is : {X : Type 0} (P : X → Type 0) (test : X → Bool) (xs : List X) (x : X) → All P xs → find test xs ≡ Some x → P x × (test x ≡ true)
found_is P test [] x all e = cc
found_is P test (y ∷ ys) x all e = by (test y) refl e (found_is P test ys x (All-tail P y ys all))
  where
    by : (b : Bool) → test y ≡ b → (if b then Some y else find test ys) ≡ Some x → (find test ys ≡ Some x → P x × (test x ≡ true)) → P x × (test x ≡ true)
    by true is e later = (let same : y ≡ x = same_Some y x e in (rw same at (All-head P y ys all), rw same at is))
    by false is e later = later e

by_scan : (u : UnwinderValue) (f g : StackFrame) → restart_of u f ≡ Some g → (goes_on u.stack f g.stack_pointer ≡ true) × (g.trust ≡ Scan)
unfolding restart_of restarts
by_scan u f g e =
    option_and_then_some (λ size. find (restarts u f) (word_candidates u.stack (next_words f size))) (pointer_bytes u.stack.width) g e (λ size is_size found.
    let words = next_words f size in
    let P : StackFrame → Type 0 = λ h. h.trust ≡ Scan in
    let all = all_given P (word_candidate u.stack) (scanned u.stack) (range_with_len words.0 words.1) in
    let is = found_is P (restarts u f) (word_candidates u.stack words) g all found in
    ((and_parts (goes_on u.stack f g.stack_pointer) (is_called u g) is.1).0, is.0))

-- the caller of a frame is of one of these
caller_by_any : (u : UnwinderValue) (f g : FrameValue) → caller_of u f ≡ Some g
    → (caller_by_rules u f ≡ Some g) ⊎ ((pointer_caller u.stack f.frame ≡ Some g.frame) ⊎ (restart_of u f.frame ≡ Some g.frame))
unfolding caller_of
caller_by_any u f g e = grind arith

-- it stands on the stack
pub reached : (u : UnwinderValue) (f g : FrameValue) → caller_of u f ≡ Some g → Reached u f.frame g.frame
reached u f g e = elim (caller_by_any u f g e) [
  | inl is ↦ (let by = by_rules u f g is in goes u f.frame g.frame by.0 (rw by.1 refl))
  | inr (inl is) ↦
      let up = climbs u.stack f.frame g.frame is in
      let by = by_pointer u.stack f.frame g.frame is in
      record { low = omega (arith, up.1); high = up.2; above = omega (arith, up.0); more = λ other. omega (arith, up.0); found = rw by refl }
  | inr (inr is) ↦ (let by = by_scan u f.frame g.frame is in goes u f.frame g.frame by.0 (rw by.1 refl))
]

-- ---- by rules

values : (u : UnwinderValue) (f g : FrameValue) → caller_by_rules u f ≡ Some g → IsByRules u f g
unfolding caller_by_rules
values u f g e =
    option_and_then_some (caller_by u f.frame) (rules_at u f) g e (λ rules has_rules by.
    option_and_then_some (λ back. caller_with u f.frame back (known_by (caller_value rules back) u.registers)) (returns rules) g by (λ back has_return made.
    record {
      rules = rules;
      back = back;
      has_rules = has_rules;
      has_return = has_return;
      instruction = grind (arith, made);
      registers = grind (arith, made);
    }))

-- a caller by rules has their values
pub is_by_rules : (u : UnwinderValue) (f g : FrameValue) → caller_of u f ≡ Some g → g.frame.trust ≡ Cfi → IsByRules u f g
is_by_rules u f g e trust = elim (caller_by_any u f g e) [
  | inl is ↦ values u f g is
  | inr (inl is) ↦ absurd (let by = by_pointer u.stack f.frame g.frame is in cc (by, trust))
  | inr (inr is) ↦ absurd (let by = by_scan u f.frame g.frame is in cc (by.1, trust))
]

-- ---- what is left of the stack

-- how far the stack goes on after a frame, and one more for that of a context
abbrev pub left : UnwinderValue → FrameValue → ℕ
left u f = (end_of u.stack + 1 - f.frame.stack_pointer) + cond (is_of_context f.frame.trust) 1 0

-- it is less after the caller
pub falls : (u : UnwinderValue) (f g : FrameValue) → caller_of u f ≡ Some g → left u g < left u f
falls u f g e = (let r = reached u f g e in grind (arith, r.high, r.above, r.more, r.found))

-- ---- the callers of the function are those of the relation, and the only ones

-- how many addresses of the stack lie up to a frame's stack pointer
abbrev height : UnwinderValue → FrameValue → ℕ
height u f = f.frame.stack_pointer + 1 - base_of u.stack

higher : (u : UnwinderValue) (f g : FrameValue) → caller_of u f ≡ Some g
    → (0 < height u g) × (height u g ≤ length (stack_bytes u.stack) + 1) × ((h : FrameValue) → caller_of u g ≡ Some h → height u g < height u h)
higher u f g e =
    let r = reached u f g e in
    (omega (arith, r.low), omega (arith, r.high), λ h up. let more = (reached u g h up).more r.found in omega (arith, r.low, more))

pub are_callers : (u : UnwinderValue) (f : FrameValue) → AreCallers (caller_of u) f (callers_in u f) (outermost f (callers_in u f))
are_callers u = are_all (caller_of u) (height u) (length (stack_bytes u.stack) + 1) (higher u)

pub callers_are : (u : UnwinderValue) (f : FrameValue) (callers : List FrameValue) (last : FrameValue) → AreCallers (caller_of u) f callers last
    → (callers ≡ callers_in u f) × (last ≡ outermost f (callers_in u f))
callers_are u = are_only (caller_of u) (height u) (length (stack_bytes u.stack) + 1) (higher u)

pub callers_by : (u : UnwinderValue) (f : FrameValue) (callers : List FrameValue) (last : FrameValue)
    → AreCallers (caller_of u) f callers last ↔ ((callers ≡ callers_in u f) × (last ≡ outermost f (callers_in u f)))
callers_by u f callers last = (callers_are u f callers last, λ is. rw (is.0, is.1) (are_callers u f))

-- ---- the first candidate from which a walk goes on, a word at a time

-- what is found from a word on, of so many
abbrev pub found_from : UnwinderValue → StackFrame → ℕ → ℕ → Option StackFrame
found_from u f a n = find (restarts u f) (word_candidates u.stack (a, n))

-- the walk doesn't go on from the first word
skips : (u : UnwinderValue) (f : StackFrame) (a n : ℕ) → restart_at u f a ≡ None → found_from u f a (suc n) ≡ found_from u f (a + 1) n
skips u f a n none = grind (arith, none)

pub found_later : (u : UnwinderValue) (f : StackFrame) (first i n : ℕ) → i < n → restart_at u f (first + i) ≡ None
    → found_from u f (first + i) (n - i) ≡ found_from u f (first + (i + 1)) (n - (i + 1))
found_later u f first i n within none =
    let more : n - i ≡ suc (n - (i + 1)) = omega arith in
    let after : first + (i + 1) ≡ first + i + 1 = omega arith in
    rw (more, after) (skips u f (first + i) (n - (i + 1)) none)

-- all words
pub found_first : (u : UnwinderValue) (f : StackFrame) (first n : ℕ) → found_from u f (first + 0) (n - 0) ≡ found_from u f first n
found_first u f first n = (let start : first + 0 ≡ first = omega arith in let all : n - 0 ≡ n = omega arith in rw (start, all))
