-- The lists of the families so far, each of which ascends.
use Rattle.std.proofs.Common.{◌≡◌, map, take, All}
use Rattle.minidump_reason.specs.declared.family.CodeFamily.{CodeFamily}
use Rattle.minidump_reason.specs.Names.{Entries, IsAscending, entries_of}
use Rattle.minidump_names.specs.NameLine.{listing_of}
use Rattle.minidump_names.specs.NamesText.{entries_of_family}
use Rattle.minidump_names.proofs.table.NameTable.read.Given as goal

abbrev pub invariant-loop-family : goal.invariant-loop-family
invariant-loop-family l = record {
  lists : map {B = CodeFamily × Entries} (λ p. (p.0, entries_of p.1.items)) l.lists.items
      ≡ map {B = CodeFamily × Entries} (λ f. (f, entries_of_family (map listing_of l.listings.items) f)) (take l.family-index l.family-items);
  ascending : All (λ p. IsAscending p.1.items) l.lists.items;
}
