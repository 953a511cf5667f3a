-- The walk goes on from a word, or from a later one, or from none.
use Rattle.std.proofs.Common.{◌∙◌, arith, refl, sym}
use Rattle.symbol_walk.specs.Walk.{restart_of, scanned_words}
use Rattle.symbol_walk.specs.Unwinder.{unwinder_of}
use Rattle.symbol_walk.proofs.ReachLemmas.{found_first, found_later}
use Rattle.symbol_walk.proofs.walk.Unwinder.restart_of.Goals as goal

pub loop-index-init : goal.loop-index-init
unfolding restart_of
loop-index-init c =
    found_first (unwinder_of c.args.self.now) c.args.frame.now c.div_ceil-first.result (scanned_words c.args.frame.now.trust)
    ∙ rw (c.div_ceil-first.ensures, ← c.in_ok-size.ensures) refl

pub loop-index-preserved : goal.loop-index-preserved
loop-index-preserved c =
    sym
    (found_later (unwinder_of c.args.self.now) c.args.frame.now c.div_ceil-first.result c.loop-index.index (scanned_words c.args.frame.now.trust)
    (omega (arith, c.loop-index-test.true, c.scanned_words-index-end.ensures)) (sym c.restart_at.ensures ∙ c.in_default.is))
    ∙ c.loop-index.invariant
