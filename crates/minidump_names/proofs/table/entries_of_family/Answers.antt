-- The codes of a family ascend.
use Rattle.std.proofs.Common.{◌<◌, AllPairs, map, sym, subst, arith}
use Rattle.std.proofs.lemmas.List.{take_all}
use Rattle.minidump_reason.specs.Names.{Entries}
use Rattle.minidump_names.specs.NameLine.{listing_of}
use Rattle.minidump_names.proofs.ListingLemmas.{family_ascends, lent_ascends}
use Rattle.minidump_names.proofs.table.entries_of_family.Goals as goal

pub returns-clause-ascending : goal.returns-clause-ascending
returns-clause-ascending c =
    let all = rw (take_all c.loop-next.next-index c.args.listings.now (omega (arith, c.loop-next-test.false))) at c.loop-next.invariant in
    lent_ascends c.loop-next.entries.items
    (subst (λ (l : Entries). AllPairs (λ a b. a.0 < b.0) l) (sym all) (family_ascends (map listing_of c.args.listings.now) c.args.family c.requires))
