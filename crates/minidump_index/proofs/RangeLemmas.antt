-- Ranges with the same ends are one range, and the range of a region with a base and a size.
use Rattle.std.proofs.Common.{◌≡◌, ℕ, ◌<◌, ◌≤◌, ◌+◌, ◌-◌, ◌^◌, arith, ap, subst, sym, ◌∙◌, Bool, true, nat_le, nat_lt}
use Rattle.std.specs.Prelude.{Some, None, if◌then◌else◌, ◌&&◌}
use Rattle.std.proofs.Math.Bridge.{le_prop}
use Rattle.std.proofs.lemmas.Bool.Decides.{nat_tests}
use Rattle.minidump_index.specs.declared.range.Range.{Range}
use native.Mathlib.Nat.{le-add_right}
use Rattle.minidump_index.specs.Overlap.{from_to, range_of}

-- a proof of the order has one value, so two ranges with the same ends are one
same_ends : (a b c d : ℕ) (h : a ≤ b) (k : c ≤ d) → a ≡ c → b ≡ d → from_to a b h ≡ from_to c d k
same_ends a b c d h k p q =
    let P : ℕ → Type 0 = λ x. (l : x ≤ d) → from_to a b h ≡ from_to x d l in
    let Q : ℕ → Type 0 = λ y. (l : a ≤ y) → from_to a b h ≡ from_to a y l in
    subst P p (subst Q q (λ l. ap (from_to a b) (le_prop h l))) k

pub same_range : (r s : Range) → r.start ≡ s.start → r.end ≡ s.end → r ≡ s
same_range r s p q = same_ends r.start r.end s.start s.end r.ordered s.ordered p q

abbrev pub whole : ℕ → ℕ → Range
whole base size = record { start = base; end = base + (size - 1); ordered = le-add_right base (size - 1) }

pub tested : (base size : ℕ) (b : Bool) → (nat_lt 0 size && nat_le (base + size) (2 ^ 64)) ≡ b
    → range_of base size ≡ (if b then Some (whole base size) else None)
tested base size b e = ap (λ (x : Bool). if x then Some (whole base size) else None) e

pub some_range : (base size : ℕ) (r : Range) → 0 < size → base + size ≤ 2 ^ 64 → r.start ≡ base → r.end ≡ base + size - 1 → Some r ≡ range_of base size
some_range base size r h k p q =
    ap (λ (x : Range). Some x) (same_range r (whole base size) p (omega arith)) ∙ sym (tested base size true (grind (arith, nat_tests)))
