-- One item more waits or went out, and the end.
use Rattle.std.proofs.Common.{[], ◌∷◌, ◌∙◌}
use Rattle.std.proofs.lemmas.Iterator.{YieldsList}
use Rattle.minidump_format.proofs.SequenceLemmas.{last_went, never_some, one_failed, one_waits, one_went, waiting_lost}
use Rattle.minidump_format.proofs.sequence.print_after.Goals.{then-len-ge-BLOCK+in_ok-put_bytes, else-len-ge-BLOCK}
use Rattle.minidump_format.proofs.sequence.print_after.Goals as goal

pub returns-in_err-put_bytes-clause-prints : goal.returns-in_err-put_bytes-clause-prints
returns-in_err-put_bytes-clause-prints g c = λ all e.
    one_failed g.W.Write.contents g.I.Iterator.next_gives g.I.Item.Pushed.text (λ t. t)
    c.loop-item.item-iterator c.next.new.self c.in-Some.item c.args.f.now c.loop-item.f (c.args.block.items ∷ all) c.loop-item.block.items c.as_slice.result.now
    (c.as_slice.ensures.value ∙ rw c.in_ok-reserve.ensures.items at c.in_ok-push.ensures) c.in-Some.ensures.steps _ _ _
    c.from_residual-in_err-put_bytes.ensures.1 c.in_err-put_bytes.ensures.prints
    (c.loop-item.invariant.2 all e)

pub loop-item-preserved : goal.loop-item-preserved
loop-item-preserved g c =
    let goes = c.in-Some.ensures.goes.on c.loop-item.invariant.1 in
    let pushed = rw c.in_ok-reserve.ensures.items at c.in_ok-push.ensures in
    let last : YieldsList g.I.Iterator.next_gives g.I.Item.Pushed.text c.args.items [] → ⊥ = λ e. never_some g.I.Iterator.next_gives g.I.Item.Pushed.text
    c.loop-item.item-iterator c.next.new.self c.in-Some.item (c.loop-item.invariant.3 e) c.in-Some.ensures.steps in
    elim c.if-len-ge-BLOCK.branch [
      | then-len-ge-BLOCK+in_ok-put_bytes w ↦ (
        goes.0,
        goes.1,
        λ all e.
            rw (w.f-is, w.block-is, w.clear.ensures.items) (one_went g.W.Write.contents g.I.Iterator.next_gives g.I.Item.Pushed.text (λ t. t)
            c.loop-item.item-iterator c.next.new.self c.in-Some.item c.args.f.now c.loop-item.f (c.args.block.items ∷ all) c.loop-item.block.items w.as_slice.result.now
            (w.as_slice.ensures.value ∙ pushed) c.in-Some.ensures.steps w.put_bytes.new.f w.in_ok-put_bytes.ensures.prints
            (c.loop-item.invariant.2 all e)),
        λ e. absurd (last e),
      )
      | else-len-ge-BLOCK w ↦ (
        goes.0,
        goes.1,
        λ all e.
            rw (w.f-is, w.block-is) (one_waits g.W.Write.contents g.I.Iterator.next_gives g.I.Item.Pushed.text (λ t. t)
            c.loop-item.item-iterator c.next.new.self c.in-Some.item c.args.f.now c.loop-item.f (c.args.block.items ∷ all) c.loop-item.block.items c.push.new.out.items
            pushed c.in-Some.ensures.steps (c.loop-item.invariant.2 all e)),
        λ e. absurd (last e),
      )
    ]

pub returns-clause-prints : goal.returns-clause-prints
returns-clause-prints g c = λ all e.
    last_went g.W.Write.contents g.I.Iterator.next_gives g.I.Item.Pushed.text (λ t. t)
    c.loop-item.item-iterator c.next.new.self c.args.f.now c.loop-item.f (c.args.block.items ∷ all) c.loop-item.block.items c.in-None.ensures.steps
    c.put_bytes-2.new.f c.put_bytes-2.result (rw c.as_slice-2.ensures.value at c.put_bytes-2.ensures.prints) (c.loop-item.invariant.2 all e)

pub returns-in_err-reserve-clause-prints : goal.returns-in_err-reserve-clause-prints
returns-in_err-reserve-clause-prints g c = λ all e.
    waiting_lost g.W.Write.contents g.I.Iterator.next_gives g.I.Item.Pushed.text (λ t. t) c.loop-item.item-iterator c.args.f.now c.loop-item.f
    (c.args.block.items ∷ all) c.loop-item.block.items c.from_residual.result c.from_residual.ensures.1 (c.loop-item.invariant.2 all e)

pub returns-in_err-push-clause-prints : goal.returns-in_err-push-clause-prints
returns-in_err-push-clause-prints g c = λ all e.
    waiting_lost g.W.Write.contents g.I.Iterator.next_gives g.I.Item.Pushed.text (λ t. t) c.loop-item.item-iterator c.args.f.now c.loop-item.f
    (c.args.block.items ∷ all) c.loop-item.block.items c.from_residual-in_err-push.result c.from_residual-in_err-push.ensures.1
    (c.loop-item.invariant.2 all e)

pub returns-in_err-reserve-clause-none : goal.returns-in_err-reserve-clause-none
returns-in_err-reserve-clause-none g c = λ e.
    absurd (never_some g.I.Iterator.next_gives g.I.Item.Pushed.text c.loop-item.item-iterator c.next.new.self c.in-Some.item
    (c.loop-item.invariant.3 e) c.in-Some.ensures.steps)

pub returns-in_err-put_bytes-clause-none : goal.returns-in_err-put_bytes-clause-none
returns-in_err-put_bytes-clause-none g c = λ e.
    absurd (never_some g.I.Iterator.next_gives g.I.Item.Pushed.text c.loop-item.item-iterator c.next.new.self c.in-Some.item
    (c.loop-item.invariant.3 e) c.in-Some.ensures.steps)

pub returns-in_err-push-clause-none : goal.returns-in_err-push-clause-none
returns-in_err-push-clause-none g c = λ e.
    absurd (never_some g.I.Iterator.next_gives g.I.Item.Pushed.text c.loop-item.item-iterator c.next.new.self c.in-Some.item
    (c.loop-item.invariant.3 e) c.in-Some.ensures.steps)
