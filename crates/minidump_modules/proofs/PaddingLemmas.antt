-- Bytes with zeros after them.
use Rattle.std.proofs.Common.{◌≡◌, ℕ, ◌-◌, ◌++◌, List, drop, length, replicate, take, refl, arith, inl, inr}
use Rattle.std.specs.Prelude.{min}
use Rattle.std.proofs.lemmas.Bool.{cases_lt}
use Rattle.std.proofs.lemmas.List.{drop-replicate, take_all}
use Rattle.minidump_modules.specs.Identity.{pad_to_16}

-- the first 16 bytes of a list, over as many zeros
pub pad_to_16_is : (id : List ℕ) (len : ℕ) → len ≡ min (length id) 16 → take len id ++ drop len (replicate {A = ℕ} 16 0) ≡ pad_to_16 id
unfolding pad_to_16
pad_to_16_is id len e = rw (drop-replicate {X = ℕ} len 16 0) (elim (cases_lt (length id) 16) [
  | inl lt ↦
      let whole : len ≡ length id = omega (arith, e) in
      rw (take_all len id (omega (arith, whole)), take_all 16 id (omega arith), whole) refl
  | inr ge ↦
      let full : len ≡ 16 = omega (arith, e) in
      let none : 16 - length id ≡ 0 = omega arith in
      rw (full, none) refl
])
