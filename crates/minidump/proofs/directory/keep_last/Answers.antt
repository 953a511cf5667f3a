-- An entry is kept where it ends its type.
use Rattle.std.proofs.Common.{arith, refl, ap, drop, ◌∙◌}
use Rattle.std.proofs.lemmas.List.{drop-set-lt, length-set}
use Rattle.minidump.specs.Deciding.{ends_a_type}
use Rattle.minidump.proofs.DirectoryLemmas.{kept_are_last, keep_more, rest_more, skip_more}
use Rattle.minidump.proofs.directory.keep_last.Goals as goal
use Rattle.minidump.proofs.directory.keep_last.Goals.{then-is_last_of_type, else-is_last_of_type}

pub loop-i-init : goal.loop-i-init
loop-i-init c = record { before = omega arith; same = refl; rest = refl; last = refl }

pub loop-i-preserved : goal.loop-i-preserved
loop-i-preserved c =
    let now = c.loop-i.entries.items in
    let old = c.args.entries.now.items in
    let before = c.loop-i.invariant in
    elim c.if-is_last_of_type.branch [
      | then-is_last_of_type w ↦ rw (w.kept-is, w.entries-is) (record {
        before = omega (arith, before.before);
        same = length-set now c.loop-i.kept w.index.result.now ∙ before.same;
        rest = drop-set-lt _ now c.loop-i.kept w.index.result.now (omega (arith, before.before))
            ∙ rest_more old now c.loop-i.i c.loop-i.kept (omega (arith, before.same)) before.rest;
        last = keep_more old now c.loop-i.i c.loop-i.kept (omega (arith, before.same)) before.rest
            w.index.result.now w.index.ensures before.before
            (w.if-is_last_of_type.ensures ∙ ap (λ l. ends_a_type (drop c.loop-i.i l)) c.as_slice.ensures.value) before.last;
      })
      | else-is_last_of_type w ↦ rw (w.kept-is, w.entries-is) (record {
        before = omega (arith, before.before);
        same = before.same;
        rest = rest_more old now c.loop-i.i c.loop-i.kept (omega (arith, before.same)) before.rest;
        last = skip_more old now c.loop-i.i c.loop-i.kept (omega (arith, before.same)) before.rest
            (w.if-is_last_of_type.ensures ∙ ap (λ l. ends_a_type (drop c.loop-i.i l)) c.as_slice.ensures.value) before.last;
      })
    ]

pub returns : goal.returns
returns c =
    rw c.truncate.ensures.items
    (kept_are_last c.args.entries.now.items c.loop-i.entries.items c.loop-i.i c.loop-i.kept c.requires (omega arith) c.loop-i.invariant.last)
