-- Each caller and each candidate has its evidence; and what the candidate of the link register is, with which a scan begins.
use Rattle.std.proofs.Common.{◌≡◌, ℕ, zero, suc, ◌+◌, ◌*◌, ◌<◌, List, [], ◌∷◌, ◌++◌, Bool, Option, Some, None, arith, inl, inr, refl, subst, sym}
use Rattle.std.specs.Prelude.{All, Contains, ◌&&◌, nat_lt, slice_get, if◌then◌else◌}
use Rattle.std.specs.List.{cons_option, range_with_len}
use Rattle.std.specs.Option.{option_and_then}
use Rattle.std.proofs.lemmas.Bool.{and_parts}
use Rattle.std.proofs.lemmas.Bool.Decides.{nat_tests}
use Rattle.std.proofs.lemmas.List.Elements.{All-append, All-cons, All-contains, All-nil, All-take}
use Rattle.std.proofs.lemmas.Option.{cond_some, option_and_then_some}
use Rattle.minidump.specs.declared.MinidumpContext.{MinidumpContext}
use Rattle.minidump.specs.declared.system_info.PointerWidth.{PointerWidth}
use Rattle.minidump.specs.Below.System.Cpu.{pointer_bytes}
use Rattle.stack_walk.specs.declared.frame.FrameTrust.TheVariants.{FramePointer, Link, Scan}
use Rattle.stack_walk.specs.declared.frame.StackFrame.{StackFrame}
use Rattle.stack_walk.specs.Addresses.{address_after, unmarked, unsigned}
use Rattle.stack_walk.specs.Evidence.{HasEvidence, IsLinkCandidate, IsShown, evidence_address}
use Rattle.stack_walk.specs.Frames.{AreCallers, AreFrames, StackValue, caller_at, caller_of, context_frame, lacks, link_candidate, link_in}
use Rattle.stack_walk.specs.Frames.{may_hold_call, pointer_at, record_of, return_at, scan, word_candidate, word_candidates, words_above, words_below}
use Rattle.stack_walk.specs.Lookups.{call_site, has_code, is_past_headers}
use Rattle.stack_walk.proofs.FoundLemmas.{All-firsts, all_given, one_more}

-- ---- the stack

-- a caller has the return address that its word holds, whatever reads a word and a return address
by_record : (width : PointerWidth) (word back site : ℕ → Option ℕ) (code : ℕ → Bool) (f g : StackFrame)
    → option_and_then (λ size. option_and_then (λ address. if nat_lt address f.stack_pointer then None
    else option_and_then (λ after. option_and_then (λ saved. option_and_then (λ instruction. option_and_then (λ call. if code call
    then Some (record { instruction = instruction; stack_pointer = after; frame_pointer = Some (unmarked saved); trust = FramePointer }) else None)
    (site instruction)) (back (address + size))) (word address)) (address_after width address (2 * size))) (record_of f)) (pointer_bytes width)
    ≡ Some g
    → option_and_then back (evidence_address width g) ≡ Some g.instruction
unfolding address_after
by_record width word back site code f g e = grind (arith, nat_tests)

of_caller : (s : StackValue) (f g : StackFrame) → caller_of s f ≡ Some g → HasEvidence s g
unfolding caller_at
of_caller s f g e = by_record s.width (pointer_at s) (return_at s) (call_site s.cpu) (has_code s.modules s.infos) f g e

-- and so has a candidate
by_word : (width : PointerWidth) (back site : ℕ → Option ℕ) (may : ℕ → Bool) (number : ℕ) (f : StackFrame)
    → option_and_then (λ size. option_and_then (λ after. option_and_then (λ instruction. option_and_then (λ call. if may call
    then Some (record { instruction = instruction; stack_pointer = after; frame_pointer = None; trust = Scan }) else None)
    (site instruction)) (back (number * size))) (address_after width (number * size) size)) (pointer_bytes width)
    ≡ Some f
    → option_and_then back (evidence_address width f) ≡ Some f.instruction
unfolding address_after
by_word width back site may number f e = grind (arith, nat_tests)

of_candidate : (s : StackValue) (number : ℕ) (f : StackFrame) → word_candidate s number ≡ Some f → HasEvidence s f
unfolding word_candidate
of_candidate s number f e = by_word s.width (return_at s) (call_site s.cpu) (λ call. is_past_headers s.modules s.infos call && may_hold_call s call) number f e

-- a frame of the link register has no evidence in the stack
none_of_link : (s : StackValue) (f : StackFrame) → HasEvidence s f → f.trust ≡ Link → ⊥
none_of_link s f evidence trust = grind (arith, evidence)

-- ---- the candidate of the link register

pub is_linked : (s : StackValue) (link : Option ℕ) (frames : List StackFrame) (f : StackFrame) → link_candidate s link frames ≡ Some f
    → IsLinkCandidate s link frames f
unfolding link_candidate
is_linked s link frames f e =
    option_and_then_some _ link f e (λ word is_word of_word. option_and_then_some _ (slice_get frames 0) f of_word (λ first is_first of_first.
    option_and_then_some _ (call_site s.cpu (unsigned s.code_bits word)) f of_first (λ call is_call of_call.
    let parts = cond_some _ _ f of_call in
    let is = and_parts (lacks frames (unsigned s.code_bits word)) _ parts.0 in
    let may = and_parts (has_code s.modules s.infos call) _ is.1 in
    subst (IsLinkCandidate s link frames) parts.1 (record {
      first = first;
      call = call;
      is_return = rw is_word refl;
      is_first = is_first;
      stack_pointer = refl;
      frame_pointer = refl;
      trust = refl;
      is_call = is_call;
      at_code = may.0;
      may_hold = may.1;
      is_other = λ caller second. let other = rw second at is.0 in (λ rules. grind (arith, other), λ same. grind (arith, nat_tests, other));
    }))))

pub is_found : (s : StackValue) (link : Option ℕ) (frames : List StackFrame) (f : StackFrame) → IsLinkCandidate s link frames f
    → link_candidate s link frames ≡ Some f
unfolding link_candidate
is_found s link frames f is = grind (arith, nat_tests, is.is_other)

-- the scan has it first
pub first_of_scan : (s : StackValue) (link : Option ℕ) (frames : List StackFrame) (limit : ℕ) (f : StackFrame) → IsLinkCandidate s link frames f
    → 0 < limit → slice_get (scan s link frames limit) 0 ≡ Some f
first_of_scan s link frames zero f is some = absurd (omega (arith, some))
first_of_scan s link frames (suc n) f is some = rw (is_found s link frames f is) refl

-- ---- all candidates

of_words : (P : StackFrame → Type 0) (s : StackValue) → ((f : StackFrame) → HasEvidence s f → P f) → (words : ℕ × ℕ)
    → All P (word_candidates s words)
of_words P s gives words =
    all_given P (word_candidate s) (λ number f e. gives f (of_candidate s number f e)) (range_with_len words.0 words.1)

-- what holds of a frame with evidence, and of the candidate of the link register, holds of each
all_candidates : (P : StackFrame → Type 0) (s : StackValue) (link : Option ℕ) (frames : List StackFrame) (limit : ℕ)
    → ((f : StackFrame) → HasEvidence s f → P f) → ((f : StackFrame) → IsLinkCandidate s link frames f → P f)
    → All P (scan s link frames limit)
all_candidates P s link frames limit by_word by_link =
    let register = cons_option (link_candidate s link frames) [] in
    let below = word_candidates s (words_below s frames) in
    let above = word_candidates s (words_above s frames) in
    let linked = one_more P (link_candidate s link frames) [] (λ f e. by_link f (is_linked s link frames f e)) (All-nil P) in
    All-take P limit _
    (All-firsts P ((register ++ below) ++ above)
    (All-append P (register ++ below) above
    (All-append P register below linked (of_words P s by_word (words_below s frames)))
    (of_words P s by_word (words_above s frames))))

-- only the candidate of the link register has its trust
pub only_link : (s : StackValue) (link : Option ℕ) (frames : List StackFrame) (limit : ℕ) (f : StackFrame)
    → Contains (scan s link frames limit) f → f.trust ≡ Link → IsLinkCandidate s link frames f
only_link s link frames limit f there =
    let P : StackFrame → Type 0 = λ g. g.trust ≡ Link → IsLinkCandidate s link frames g in
    All-contains P (scan s link frames limit) f
    (all_candidates P s link frames limit (λ g evidence trust. absurd (none_of_link s g evidence trust)) (λ g is trust. is))
    there

-- ---- all frames

all_callers : (s : StackValue) (c : MinidumpContext) (f : StackFrame) (gs : List StackFrame) (last : StackFrame) → AreCallers (caller_of s) f gs last
    → All (IsShown s c) gs
all_callers s c f [] last callers = All-nil (IsShown s c)
all_callers s c f (g ∷ gs) last callers =
    All-cons (IsShown s c) g gs (inl (of_caller s f g callers.0)) (all_callers s c g gs last callers.1)

-- each frame but the first
pub all_evidence : (s : StackValue) (c : MinidumpContext) (limit : ℕ) (first : StackFrame) (rest : List StackFrame)
    → AreFrames s c limit (first ∷ rest) → All (IsShown s c) rest
all_evidence s c limit first rest x =
    let walk = context_frame c ∷ x.callers in
    let candidates = scan s (link_in c) walk limit in
    let same : x.callers ++ candidates ≡ rest = (let whole : first ∷ rest ≡ walk ++ candidates = x.whole in cc) in
    rw (sym same)
    (All-append (IsShown s c) x.callers candidates (all_callers s c (context_frame c) x.callers x.last x.are_callers)
    (all_candidates (IsShown s c) s (link_in c) walk limit (λ f evidence. inl evidence) (λ f is. inr (is.trust, is.is_return))))
