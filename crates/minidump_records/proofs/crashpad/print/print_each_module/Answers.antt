-- One module more, and the end.
use Rattle.std.proofs.Common.{[], refl}
use Rattle.minidump_records.specs.Crashpad.{module_of}
use Rattle.minidump_records.specs.Crashpad.Text.{module_text}
use Rattle.minidump_format.proofs.SequenceLemmas.{all_went, one_failed, one_went}
use Rattle.minidump_records.proofs.crashpad.print.print_each_module.Goals as goal

pub loop-item-preserved : goal.loop-item-preserved
loop-item-preserved g c =
    let goes = c.in-Some.ensures.goes.on c.loop-item.invariant.1 in (
      goes.0,
      goes.1,
      λ all e.
          one_went g.W.Write.contents g.I.Iterator.next_gives (λ m. (m.0, module_of m.1.now)) module_text c.loop-item.item-iterator c.next.new.self
          c.in-Some.item c.args.f.now c.loop-item.f all [] (module_text (c.in-Some.item.0, module_of c.in-Some.item.1.now)) refl c.in-Some.ensures.steps
          c.print_module.new.f c.in_ok-print_module.ensures (c.loop-item.invariant.2 all e),
    )

pub returns-in_err-print_module : goal.returns-in_err-print_module
returns-in_err-print_module g c = λ all e.
    one_failed g.W.Write.contents g.I.Iterator.next_gives (λ m. (m.0, module_of m.1.now)) module_text c.loop-item.item-iterator c.next.new.self
    c.in-Some.item c.args.f.now c.loop-item.f all [] (module_text (c.in-Some.item.0, module_of c.in-Some.item.1.now)) refl c.in-Some.ensures.steps
    _ _ _ c.from_residual.ensures.1 c.in_err-print_module.ensures (c.loop-item.invariant.2 all e)

pub returns : goal.returns
returns g c = λ all e.
    all_went g.W.Write.contents g.I.Iterator.next_gives (λ m. (m.0, module_of m.1.now)) module_text c.loop-item.item-iterator c.next.new.self
    c.args.f.now c.loop-item.f all c.in-None.ensures.steps (c.loop-item.invariant.2 all e)
