-- What was made, and what is to be made of the items that are left, are all rows and all texts.
use Rattle.std.proofs.Common.{◌≡◌, ◌++◌, drop, map}
use Rattle.minidump_c.specs.Spans.{rows_after, texts_after}
use Rattle.minidump_c.proofs.spans.make_rows.Given as goal

abbrev pub invariant-loop-item : goal.invariant-loop-item
invariant-loop-item g l = record {
  rows : l.rows.items ++ rows_after g.X.MakeRow.row_after l.texts.items (map g.X.MakeRow.value_of (drop l.item-index l.items))
      ≡ rows_after g.X.MakeRow.row_after l.fn.texts.items (map g.X.MakeRow.value_of l.items);
  texts : texts_after g.X.MakeRow.row_after l.texts.items (map g.X.MakeRow.value_of (drop l.item-index l.items))
      ≡ texts_after g.X.MakeRow.row_after l.fn.texts.items (map g.X.MakeRow.value_of l.items);
}
