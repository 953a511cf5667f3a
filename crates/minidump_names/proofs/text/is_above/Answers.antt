-- The last code of the family decides.
use Rattle.std.proofs.Common.{◌-◌, sym, arith}
use Rattle.minidump_names.proofs.FamilyLemmas.{same_family}
use Rattle.minidump_names.proofs.OrderLemmas.{above_here, above_all}
use Rattle.minidump_names.proofs.text.is_above.Goals as goal

pub returns-then-eq : goal.returns-then-eq
returns-then-eq c =
    above_here c.args.listings.now c.args.family c.args.number (c.loop-i.i - 1) _ c.requires (omega (arith, c.loop-i.auto.i, c.loop-i-test.true))
    (same_family _ _ (sym c.if-eq.ensures))
    (λ k d past within. c.loop-i.invariant k d (omega (arith, past)) within)

pub returns : goal.returns
returns c k d within =
    above_all c.args.listings.now c.args.family c.args.number (λ k d within. c.loop-i.invariant k d (omega (arith, c.loop-i-test.false)) within) k d within
