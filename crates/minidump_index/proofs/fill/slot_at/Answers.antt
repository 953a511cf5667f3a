-- A number's zeros at the end make no more than the number.
use Rattle.std.proofs.Common.{arith, ◌+◌, ◌^◌, refl}
use Rattle.std.specs.Int.Count.{count_trailing_zeros}
use Rattle.std.proofs.lemmas.Nat.{le-div, pow_pos}
use Rattle.minidump_index.proofs.WalkLemmas.{trailing_below}
use Rattle.minidump_index.proofs.fill.slot_at.Goals as goal

pub overflow_sub-result : goal.overflow_sub-result
overflow_sub-result c =
    let zeros = count_trailing_zeros 64 c.args.k in
    let small = trailing_below 64 c.args.k c.requires.starts in
    let two = le-div 2 (c.args.total + c.args.k) (2 ^ zeros) (pow_pos zeros) (omega (arith, small, c.requires.within)) in
    omega (arith, two)

pub returns : goal.returns
returns c = refl
