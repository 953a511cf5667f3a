-- The lists of the families: one more, and all of them.
use Rattle.std.proofs.Common.{ap, map, ◌∙◌, arith}
use Rattle.std.proofs.lemmas.List.{get_or_default, take_all}
use Rattle.std.proofs.lemmas.List.Elements.{All-push}
use Rattle.minidump_reason.specs.Names.{IsAscending, entries_of}
use Rattle.minidump_names.specs.NameLine.{families, listing_of}
use Rattle.minidump_names.specs.NamesText.{entries_of_family, lists_in}
use Rattle.minidump_names.proofs.FamilyLemmas.{families_apart}
use Rattle.minidump_names.proofs.LentLemmas.{apart_by, lists_more}
use Rattle.minidump_names.proofs.table.NameTable.read.Goals as goal

pub loop-family-preserved : goal.loop-family-preserved
unfolding families
loop-family-preserved c =
    let listings = map listing_of c.in_ok-listings.listings.items in
    let entries = rw c.deref.ensures.value at c.in_ok-entries_of_family.ensures.entries in
    record {
      lists = lists_more (λ v. v.items) (λ f. entries_of_family listings f) families c.loop-family.family-index c.loop-family.lists.items _ _
          c.in_ok-push.ensures.items
          (omega arith) (λ d. get_or_default families c.loop-family.family-index d _ (omega arith)) c.loop-family.invariant.lists entries;
      ascending = rw c.in_ok-push.ensures.items (All-push (λ p. IsAscending p.1.items) c.loop-family.lists.items _ c.loop-family.invariant.ascending
          c.in_ok-entries_of_family.ensures.ascending);
    }

pub invariant_of-result : goal.invariant_of-result
unfolding families
invariant_of-result c =
    let listings = map listing_of c.in_ok-listings.listings.items in
    let all = rw (take_all c.loop-family.family-index families (omega (arith, c.loop-family-test.false))) at c.loop-family.invariant.lists in (
      c.loop-family.invariant.ascending,
      apart_by (λ p. (p.0, entries_of p.1.items)) (λ f. entries_of_family listings f) c.loop-family.lists.items families all families_apart,
    )

pub returns-clause-names : goal.returns-clause-names
unfolding families
returns-clause-names c =
    let all = rw (take_all c.loop-family.family-index families (omega (arith, c.loop-family-test.false))) at c.loop-family.invariant.lists in
    (c.in_ok-listings.ensures.0, all ∙ ap lists_in c.in_ok-listings.ensures.1)
