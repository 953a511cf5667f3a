-- A mask of ones keeps the remainder by a power of 2.
use Rattle.std.proofs.Common.{◌≡◌, ℕ, ◌*◌, ◌%◌, ◌/◌, ◌^◌, ◌-◌, ◌<◌, ◌∙◌, ap, arith, bit_and}
use Rattle.std.proofs.lemmas.Nat.{and_mask}
use Rattle.std.proofs.Math.Pow.{pow-lt, pow_pos}
use Rattle.std.proofs.Math.Nat.{mod-eq_of_lt, mod-lt}
use Rattle.minidump_reason.specs.Bits.{bits_of}
use Rattle.minidump_reason.proofs.bits.bits_of.Goals as goal

mask_is : (count : ℕ) → count < 64 → 1 * 2 ^ count % 2 ^ 64 ≡ 2 ^ count
mask_is count few = let small : 2 ^ count < 2 ^ 64 = pow-lt few in let low : 1 * 2 ^ count < 2 ^ 64 = omega arith in mod-eq_of_lt low ∙ omega arith

mask_keeps : (n count : ℕ) → count < 64 → bit_and n (1 * 2 ^ count % 2 ^ 64 - 1) ≡ n % 2 ^ count
mask_keeps n count few = ap (λ m. bit_and n (m - 1)) (mask_is count few) ∙ and_mask n count

pub returns-clause-bits : goal.returns-clause-bits
unfolding bits_of
returns-clause-bits c = mask_keeps (c.args.number / 2 ^ c.args.lowest) c.args.count c.requires.few

pub returns-clause-small : goal.returns-clause-small
returns-clause-small c = rw (mask_keeps (c.args.number / 2 ^ c.args.lowest) c.args.count c.requires.few) (mod-lt _ (pow_pos c.args.count))
