-- The words of the scan are those of the stack from the address on, and it leaves out none that has a candidate.
use Rattle.std.proofs.Common.{◌≡◌, ◌∙◌, ℕ, ◌+◌, ◌*◌, ◌/◌, ◌<◌, ◌≤◌, List, [], ◌∷◌, ◌++◌, length, true, Option, Some, None, arith, length-append, sym}
use Rattle.std.specs.Prelude.{Contains, max, ◌==◌}
use Rattle.std.specs.Int.{div_ceil}
use Rattle.std.specs.List.{cons_option, range_with_len}
use Rattle.std.specs.Option.{option_map_or}
use Rattle.std.proofs.lemmas.Bool.Decides.{nat_tests}
use Rattle.std.proofs.lemmas.Grind.{div_ceil_times}
use Rattle.std.proofs.lemmas.List.{take_all}
use Rattle.std.proofs.lemmas.List.Folds.{list_any-append}
use Rattle.std.proofs.lemmas.List.FromFn.{length-range_with_len}
use Rattle.minidump.specs.declared.system_info.PointerWidth.{PointerWidth}
use Rattle.minidump.specs.declared.system_info.PointerWidth.TheVariants.{Bits32, Bits64, Unknown}
use Rattle.minidump.specs.Below.MemoryLists.Unified.{UnifiedRegion}
use Rattle.minidump.specs.Below.System.Cpu.{pointer_bytes}
use Rattle.stack_walk.specs.declared.frame.FrameTrust.TheVariants.{FramePointer}
use Rattle.stack_walk.specs.declared.frame.StackFrame.{StackFrame}
use Rattle.stack_walk.specs.Addresses.{address_after}
use Rattle.stack_walk.specs.Found.{has_word}
use Rattle.stack_walk.specs.Frames.{StackValue, firsts, link_candidate, record_of, scan, stack_bytes, word_candidate}
use Rattle.stack_walk.specs.Frames.{word_candidates, words_above, words_below, words_from}
use Rattle.stack_walk.proofs.CallerLemmas.{base_of, end_of}
use Rattle.stack_walk.proofs.FoundLemmas.{few_given, given, has_firsts, length-firsts, word_there, words_of}
use Rattle.stack_walk.proofs.laws.each_aligned_word_is_scanned.Goals as goal

-- ---- how many there are

few_words : (s : StackValue) (from : ℕ) → 4 * (words_from s from).1 ≤ length (stack_bytes s)
few_words s from = grind arith

few_looked : (s : StackValue) (frames : List StackFrame)
    → (4 * (words_above s frames).1 ≤ length (stack_bytes s)) × (4 * (words_below s frames).1 ≤ length (stack_bytes s))
unfolding words_below
few_looked s frames = (grind (arith, few_words), grind (arith, few_words))

few_candidates : (s : StackValue) (words : ℕ × ℕ) → length (word_candidates s words) ≤ words.1
few_candidates s words =
    omega (arith, few_given (word_candidate s) (range_with_len words.0 words.1), length-range_with_len words.0 words.1)

one_linked : (o : Option StackFrame) → length (cons_option o []) ≤ 1
one_linked o = grind arith

-- all candidates of a walk, without a limit
abbrev candidates_of : StackValue → Option ℕ → List StackFrame → List StackFrame
candidates_of s link frames =
    (cons_option (link_candidate s link frames) [] ++ word_candidates s (words_below s frames)) ++ word_candidates s (words_above s frames)

-- with different return addresses they are no more than the bytes of the stack, where that has four or more
few_firsts : (s : StackValue) (link : Option ℕ) (frames : List StackFrame) → 4 ≤ length (stack_bytes s)
    → length (firsts (candidates_of s link frames)) ≤ length (stack_bytes s)
few_firsts s link frames some =
    omega (
      arith,
      length-firsts (candidates_of s link frames),
      length-append {A = StackFrame},
      one_linked (link_candidate s link frames),
      few_candidates s (words_below s frames),
      few_candidates s (words_above s frames),
      few_looked s frames,
    )

-- ---- each word that has a candidate

-- the word of a candidate lies on the stack
on_stack : (s : StackValue) (number size : ℕ) (f : StackFrame) → pointer_bytes s.width ≡ Some size → word_candidate s number ≡ Some f
    → (base_of s ≤ number * size) × (number * size + size ≤ end_of s) × (4 ≤ size)
unfolding word_candidate address_after
on_stack s number size f is e = grind (arith, nat_tests)

-- so it is among those from an address on
from_there : (s : StackValue) (from number size : ℕ) → pointer_bytes s.width ≡ Some size → base_of s ≤ number * size → number * size + size ≤ end_of s
    → from ≤ number * size → ((words_from s from).0 ≤ number) × (number < (words_from s from).0 + (words_from s from).1)
from_there s from number size is low high above = by s.region s.width is low high
  where
    by : (region : Option UnifiedRegion) (width : PointerWidth) → pointer_bytes width ≡ Some size
        → option_map_or (λ r. r.base_address) region 0 ≤ number * size
        → number * size + size ≤ option_map_or (λ r. r.base_address) region 0 + length (option_map_or (λ r. r.bytes) region [])
        → let words = option_map_or {U = ℕ × ℕ} (λ r. option_map_or {U = ℕ × ℕ} (λ n. (div_ceil (max from r.base_address) n, length r.bytes / n)) (pointer_bytes width) (0, 0)) region (0, 0)
        in (words.0 ≤ number) × (number < words.0 + words.1)
    by None Bits32 is low high = (let k : 4 ≡ size = cc in absurd (omega (arith, k, low, high)))
    by None Bits64 is low high = (let k : 8 ≡ size = cc in absurd (omega (arith, k, low, high)))
    by None Unknown is low high = cc
    by (Some r) Bits32 is low high =
        let k : 4 ≡ size = cc in
        let c = div_ceil_times (max from r.base_address) 4 (omega arith) in
        omega (arith, rw (sym k) at low, rw (sym k) at high, rw (sym k) at above, c.0, c.1)
    by (Some r) Bits64 is low high =
        let k : 8 ≡ size = cc in
        let c = div_ceil_times (max from r.base_address) 8 (omega arith) in
        omega (arith, rw (sym k) at low, rw (sym k) at high, rw (sym k) at above, c.0, c.1)
    by (Some r) Unknown is low high = cc

-- and the scan has its return address, if it is among those that are looked at
there : (s : StackValue) (link : Option ℕ) (frames : List StackFrame) (limit number size : ℕ) (f : StackFrame) → pointer_bytes s.width ≡ Some size
    → word_candidate s number ≡ Some f → length (stack_bytes s) ≤ limit
    → has_word (candidates_of s link frames) f.instruction ≡ true → Contains (words_of (scan s link frames limit)) f.instruction
there s link frames limit number size f is e enough has =
    let on = on_stack s number size f is e in
    rw (take_all limit (firsts (candidates_of s link frames)) (omega (arith, enough, few_firsts s link frames (omega (arith, on.0, on.1, on.2)))))
    (word_there (firsts (candidates_of s link frames)) f.instruction (has_firsts (candidates_of s link frames) f.instruction ∙ has))

has_number : (s : StackValue) (words : ℕ × ℕ) (number : ℕ) (f : StackFrame) → word_candidate s number ≡ Some f
    → (words.0 ≤ number) × (number < words.0 + words.1) → has_word (word_candidates s words) f.instruction ≡ true
has_number s words number f e on =
    given (λ g. g.instruction == f.instruction) (word_candidate s) f words.1 words.0 number on.0 on.1 e (grind (arith, nat_tests))

below_there : (s : StackValue) (first caller : StackFrame) (callers : List StackFrame) (until number size : ℕ) → caller.trust ≡ FramePointer
    → record_of first ≡ Some until → pointer_bytes s.width ≡ Some size
    → ((words_from s first.stack_pointer).0 ≤ number) × (number < (words_from s first.stack_pointer).0 + (words_from s first.stack_pointer).1)
    → number * size + size ≤ until → let words = words_below s (first ∷ caller ∷ callers) in (words.0 ≤ number) × (number < words.0 + words.1)
unfolding words_below
below_there s first caller callers until number size trust points is on high = grind (arith, on)

-- each word from the last frame's stack pointer on
pub returns-clause-above : goal.returns-clause-above
returns-clause-above c = λ s link frames last limit number size f is_last is above e enough.
    let on = on_stack s number size f is e in
    let has : has_word (word_candidates s (words_above s frames)) f.instruction ≡ true =
    has_number s (words_above s frames) number f e (rw is_last (from_there s last.stack_pointer number size is on.0 on.1 above))
    in
    there s link frames limit number size f is e enough (grind (arith, list_any-append, has))

-- each word of the first frame below its record
pub returns-clause-below : goal.returns-clause-below
returns-clause-below c = λ s link first caller callers until limit number size f trust points is above high e enough.
    let frames = first ∷ caller ∷ callers in
    let on = on_stack s number size f is e in
    let has : has_word (word_candidates s (words_below s frames)) f.instruction ≡ true =
    has_number s (words_below s frames) number f e
    (below_there s first caller callers until number size trust points is (from_there s first.stack_pointer number size is on.0 on.1 above) high)
    in
    there s link frames limit number size f is e enough (grind (arith, list_any-append, has))
