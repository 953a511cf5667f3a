-- The lists that are lent are those of the table.
use Rattle.std.proofs.Common.{◌∙◌, arith}
use Rattle.std.proofs.lemmas.List.{take_all}
use Rattle.minidump_names.proofs.LentLemmas.{lent_names, lent_value}
use Rattle.minidump_names.proofs.table.NameTable.lists.Goals as goal

pub invariant_of-result : goal.invariant_of-result
invariant_of-result c =
    let whole = take_all c.loop-list.list-index c.deref-list-items.result.now (omega (arith, c.loop-list-test.false)) in
    let all = rw (whole, c.deref-list-items.ensures.value) at c.loop-list.invariant in
    lent_names c.self.inside.lists.items _ c.loop-list.lists.items all c.self.invariant.0 c.self.invariant.1

pub returns : goal.returns
returns c =
    let whole = take_all c.loop-list.list-index c.deref-list-items.result.now (omega (arith, c.loop-list-test.false)) in
    let all = rw (whole, c.deref-list-items.ensures.value) at c.loop-list.invariant in
    lent_value c.self.inside.lists.items _ c.loop-list.lists.items all ∙ c.self.view_is
