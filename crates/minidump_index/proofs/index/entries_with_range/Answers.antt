-- An index adds its entry where it has a range.
use Rattle.std.proofs.Common.{rules, arith, ◌≡◌, ◌∙◌, ◌++◌, ◌∷◌, [], List, ap, map, sym, subst, take}
use Rattle.std.specs.Prelude.{Some, None}
use Rattle.std.proofs.lemmas.List.{append-nil, length-map, map-append, take_all}
use Rattle.minidump_index.specs.declared.index.Entry.{Entry}
use Rattle.minidump_index.specs.Kept.{HoldsRanged}
use Rattle.minidump_index.proofs.index.entries_with_range.Goals as goal
use Rattle.minidump_index.proofs.index.entries_with_range.Goals.{in-Some+else-not-holds+in_ok-push, in_default}
use Rattle.minidump_index.proofs.RangedEntries.{at_region, entries_from, entries_in, entries_more, entries_none, entry, has_region, holds_ranged, index_within}

pub loop-index-init : goal.loop-index-init
loop-index-init g c = rw (entries_none (map g.R.Region.range c.args.regions.now)) (search rules)

-- an entry that can't be held
pub returns-then-not-holds : goal.returns-then-not-holds
returns-then-not-holds g c =
    let r = c.in-Some.range in
    let n = c.loop-index.index in (
      entry r n,
      has_region g.R.Region.range c.args.regions.now n _ c.memory_range.result r c.loop-index-test.true c.index-regions-index.is
          c.memory_range.ensures c.in-Some.is,
      λ fits. (let holds = c.holds.ensures.1 fits in search rules),
    )

pub loop-index-preserved : goal.loop-index-preserved
unfolding entries_from
loop-index-preserved g c =
    let ranges = map g.R.Region.range c.args.regions.now in
    let value = g.S.Stored.value in
    let items = c.loop-index.entries.items in
    let n = c.loop-index.index in
    let within = index_within g.R.Region.range c.args.regions.now n c.loop-index-test.true in
    let at = at_region g.R.Region.range c.args.regions.now n _ _ c.loop-index-test.true c.index-regions-index.is c.memory_range.ensures in
    elim c.match-memory_range.branch [
      | in-Some+else-not-holds+in_ok-push w ↦
          (let e = entry w.in-Some.range n in
          let more : map value (items ++ w.of.result ∷ []) ≡ map value items ++ e ∷ [] =
          map-append value items (w.of.result ∷ []) ∙ ap (λ (x : Entry). map value items ++ x ∷ []) w.of.ensures in
          rw (w.entries-is, w.in_ok-push.ensures.items) (more ∙ ap (λ (l : List Entry). l ++ e ∷ []) c.loop-index.invariant
          ∙ sym (entries_more ranges n c.memory_range.result (Some w.in-Some.range) within at w.in-Some.is)))
      | in_default w ↦ rw w.entries-is (c.loop-index.invariant
          ∙ sym (entries_more ranges n c.memory_range.result None within at w.in_default.is ∙ append-nil (entries_in (take n ranges))))
    ]

pub returns : goal.returns
returns g c =
    let ranges = map g.R.Region.range c.args.regions.now in
    let all = take_all c.loop-index.index ranges (omega (arith, length-map c.args.regions.now g.R.Region.range)) in
    subst (HoldsRanged ranges) (sym (c.loop-index.invariant ∙ ap entries_in all)) (holds_ranged ranges)
