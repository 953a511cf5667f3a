-- A caller stands on the stack, right after its return address, and higher than its frame: so each frame has one list of callers.
use Rattle.std.proofs.Common.{◌≡◌, ◌∙◌, ℕ, zero, suc, ◌+◌, ◌-◌, ◌<◌, ◌≤◌, ◌/◌, List, [], ◌∷◌, ◌++◌, length, Option, Some, None, refl, sym, ap, arith}
use Rattle.std.specs.Prelude.{◌↔◌}
use Rattle.std.specs.Option.{option_map_or}
use Rattle.std.proofs.lemmas.Bool.Decides.{nat_tests}
use Rattle.minidump.specs.declared.MinidumpContext.{MinidumpContext}
use Rattle.stack_walk.specs.declared.frame.FrameTrust.TheVariants.{FramePointer}
use Rattle.stack_walk.specs.declared.frame.StackFrame.{StackFrame}
use Rattle.stack_walk.specs.Addresses.{address_after}
use Rattle.stack_walk.specs.Frames.{AreCallers, AreFrames, StackValue, caller_at, caller_of, callers_of, context_frame, link_in, outermost, scan, stack_bytes}
use Rattle.stack_walk.specs.Walk.{callers_in, frames_in}

-- ---- frames of any kind, whose callers stand ever higher, and not above the last of so many places

module _ {F : Type 0} (caller_by : F → Option F) where
  pub few_callers : (n : ℕ) (f : F) → length (callers_of caller_by n f) ≤ n
  unfolding callers_of
  few_callers zero f = omega arith
  few_callers (suc n) f = grind (arith, few_callers n)

  same_callers : (f : F) (xs ys : List F) (l m : F) → AreCallers caller_by f xs l → AreCallers caller_by f ys m → (ys ≡ xs) × (m ≡ l)
  same_callers f [] [] l m x y = (refl, y.1 ∙ sym x.1)
  same_callers f [] (g ∷ ys) l m x y = (let k : None ≡ Some g = sym x.0 ∙ y.0 in cc)
  same_callers f (g ∷ xs) [] l m x y = (let k : None ≡ Some g = sym y.0 ∙ x.0 in cc)
  same_callers f (g ∷ xs) (h ∷ ys) l m x y =
      let k : Some g ≡ Some h = sym x.0 ∙ y.0 in
      let same : h ≡ g = cc in
      let rest = same_callers g xs ys l m x.1 (rw same at y.1) in
      (cc (rest.0, same), rest.1)

  -- the callers of a frame, at most so many, and the last of these are its callers
  abbrev AreAll : ℕ → F → Type 0
  AreAll n f = AreCallers caller_by f (callers_of caller_by n f) (outermost f (callers_of caller_by n f))

module _ {F : Type 0} (caller_by : F → Option F) (height : F → ℕ) (n : ℕ)
    (climbs : (f g : F) → caller_by f ≡ Some g → (0 < height g) × (height g ≤ n) × ((h : F) → caller_by g ≡ Some h → height g < height h)) where
  from : (left : ℕ) (f : F) → ((g : F) → caller_by f ≡ Some g → n < height g + left) → AreAll caller_by left f
  unfolding callers_of
  from zero f room = by (caller_by f) refl
    where
      by : (o : Option F) → caller_by f ≡ o → AreCallers caller_by f [] f
      by None is = (is, refl)
      by (Some g) is = absurd (omega (arith, room g is, (climbs f g is).1))
  from (suc left) f room = by (caller_by f) refl (λ g is. from left g (λ h up. omega (arith, room g is, (climbs f g is).2 h up)))
    where
      by : (o : Option F) → caller_by f ≡ o → ((g : F) → caller_by f ≡ Some g → AreAll caller_by left g)
          → let gs = option_map_or (λ g. g ∷ callers_of caller_by left g) o [] in AreCallers caller_by f gs (outermost f gs)
      by None is rest = (is, refl)
      by (Some g) is rest = (is, rest g is)

  pub are_all : (f : F) → AreAll caller_by n f
  are_all f = from n f (λ g is. omega (arith, (climbs f g is).0))

  -- and the only ones
  pub are_only : (f : F) (gs : List F) (last : F) → AreCallers caller_by f gs last
      → (gs ≡ callers_of caller_by n f) × (last ≡ outermost f (callers_of caller_by n f))
  are_only f gs last are = same_callers caller_by f (callers_of caller_by n f) gs (outermost f (callers_of caller_by n f)) last (are_all f) are

-- ---- callers by frame pointers

-- the first address of a stack
abbrev pub base_of : StackValue → ℕ
base_of s = option_map_or (λ r. r.base_address) s.region 0

-- the address after a stack
abbrev pub end_of : StackValue → ℕ
end_of s = base_of s + length (stack_bytes s)

-- a caller lies higher than its frame, and in the region
pub climbs : (s : StackValue) (f g : StackFrame) → caller_of s f ≡ Some g
    → (f.stack_pointer + 8 ≤ g.stack_pointer) × (base_of s + 8 ≤ g.stack_pointer) × (g.stack_pointer ≤ end_of s)
unfolding caller_at address_after
climbs s f g e = grind (arith, nat_tests)

pub by_pointer : (s : StackValue) (f g : StackFrame) → caller_of s f ≡ Some g → g.trust ≡ FramePointer
unfolding caller_at address_after
by_pointer s f g e = grind arith

-- how many times eight bytes a frame stands above the first address of its stack
abbrev height : StackValue → StackFrame → ℕ
height s f = (f.stack_pointer - base_of s) / 8

higher : (s : StackValue) (f g : StackFrame) → caller_of s f ≡ Some g
    → (0 < height s g) × (height s g ≤ length (stack_bytes s) / 8) × ((h : StackFrame) → caller_of s g ≡ Some h → height s g < height s h)
higher s f g e =
    let up = climbs s f g e in
    (omega (arith, up.1), omega (arith, up.2), λ h above. let more = climbs s g h above in omega (arith, up.1, more.0))

-- the callers of the function are those of the relation
pub are_callers : (s : StackValue) (f : StackFrame) → AreCallers (caller_of s) f (callers_in s f) (outermost f (callers_in s f))
are_callers s = are_all (caller_of s) (height s) (length (stack_bytes s) / 8) (higher s)

pub callers_are : (s : StackValue) (f : StackFrame) (gs : List StackFrame) (last : StackFrame) → AreCallers (caller_of s) f gs last
    → (gs ≡ callers_in s f) × (last ≡ outermost f (callers_in s f))
callers_are s = are_only (caller_of s) (height s) (length (stack_bytes s) / 8) (higher s)

-- ---- all frames

-- the frames of the relation are those of the function
pub frames_by : (s : StackValue) (c : MinidumpContext) (limit : ℕ) (frames : List StackFrame)
    → AreFrames s c limit frames ↔ (frames ≡ frames_in s c limit)
frames_by s c limit frames =
    let first = context_frame c in
    let callers = callers_in s first in (
      λ x. x.whole
          ∙ ap (λ (w : List StackFrame). (first ∷ w) ++ scan s (link_in c) (first ∷ w) limit) (callers_are s first x.callers x.last x.are_callers).0,
      λ is. record { callers = callers; last = outermost first callers; are_callers = are_callers s first; whole = is },
    )
