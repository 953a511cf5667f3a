-- How many bits an address has, and what lies past the last one.
use Rattle.std.proofs.Common.{◌≡◌, ℕ, zero, suc, ◌+◌, ◌-◌, ◌*◌, ◌%◌, ◌<◌, ◌≤◌, ◌^◌, ◌⊎◌, inl, inr, None, Some, arith}
use Rattle.std.specs.Int.{leading_zeros, w64}
use Rattle.std.specs.Int.Count.{leading_unique}
use Rattle.std.proofs.Math.Nat.{mod-eq_of_lt}
use Rattle.std.proofs.Math.Pow.{pow_mono}
use Rattle.std.proofs.lemmas.Bool.{cases_lt}
use Rattle.std.proofs.lemmas.Bool.Decides.{nat_tests}
use Rattle.minidump.specs.declared.system_info.PointerWidth.{PointerWidth}
use Rattle.minidump.specs.Below.Index.Digits.{digits}
use Rattle.minidump.specs.Below.System.Cpu.{pointer_bytes}
use Rattle.stack_walk.specs.Addresses.{address_after, unsigned}

-- a number has as many digits as leading zeros leave
pub digits_left : digits 0 ≡ 0 → ((k : ℕ) → k < 2 ^ digits k) → ((k : ℕ) → 0 < k → 2 ^ digits k ≤ 2 * k) → (n : ℕ) → n < 2 ^ 64
    → 64 - leading_zeros w64 n ≡ digits n
digits_left none above below n small =
    let few = at_most (cases_lt 64 (digits n)) in
    let same = leading_unique 64 n (64 - digits n) (digits n) (omega (arith, few)) (above n) (double n) in omega (arith, same, few)
  where
    double : (k : ℕ) → 2 ^ digits k ≤ 2 * k + 1
    double zero = rw none (omega arith)
    double (suc k) = (let most = below (suc k) (omega arith) in omega (arith, most))

    at_most : (64 < digits n) ⊎ (digits n ≤ 64) → digits n ≤ 64
    at_most (inl more) = (let far = pow_mono {i = 65} {j = digits n} (omega arith) in absurd (omega (arith, far, double n, small)))
    at_most (inr few) = few

-- an address has bytes
pub some_bytes : (width : PointerWidth) (size : ℕ) → pointer_bytes width ≡ Some size → 0 < size
some_bytes width size is = grind arith

-- a word of 64 bits has none above them
pub all_bits : (bits word : ℕ) → word < 2 ^ 64 → 64 ≤ bits → word ≡ unsigned bits word
all_bits bits word small many =
    let same : word % 2 ^ bits ≡ word = mod-eq_of_lt (omega (arith, pow_mono {i = 64} {j = bits} many, small)) in grind (arith, same)

-- no address lies after others past 2^64
pub none_after : (width : PointerWidth) (address size : ℕ) → 2 ^ 64 ≤ address + size → None ≡ address_after width address size
unfolding address_after
none_after width address size far = grind (arith, nat_tests, far)
