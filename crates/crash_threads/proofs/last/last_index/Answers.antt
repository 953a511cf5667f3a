-- The next item, or one before it.
use Rattle.std.proofs.Common.{◌∙◌, ap, refl}
use Rattle.std.proofs.lemmas.Fn.{says_at}
use Rattle.std.proofs.lemmas.List.{take_all}
use Rattle.crash_threads.specs.Last.{last_index}
use Rattle.crash_threads.proofs.Lasts.{next_index}
use Rattle.crash_threads.proofs.last.last_index.Goals as goal
use Rattle.crash_threads.proofs.last.last_index.Goals.{then-is_chosen, else-is_chosen}

pub loop-index-preserved : goal.loop-index-preserved
loop-index-preserved g c = λ test tells.
    let item = c.index-items-index in
    let next = next_index test c.args.items.now c.loop-index.index item.result c.loop-index.last c.if-is_chosen.last c.is_chosen.result
    c.loop-index-test.true item.is (c.loop-index.invariant test tells) (tells item.result c.is_chosen.result (says_at g.F.Fn c.is_chosen.ensures refl)) in
    elim c.if-is_chosen.branch [ then-is_chosen w ↦ next (rw w.if-is_chosen.true w.last-is) | else-is_chosen w ↦ next (rw w.if-is_chosen.false w.last-is) ]

pub returns : goal.returns
returns g c = λ test tells.
    c.loop-index.invariant test tells ∙ ap (last_index test) (take_all c.loop-index.index c.args.items.now c.loop-index-test.false)
