-- The codes of the family so far.
use Rattle.std.proofs.Common.{◌≡◌, map, take}
use Rattle.minidump_reason.specs.Names.{entries_of}
use Rattle.minidump_names.specs.NameLine.{listing_of}
use Rattle.minidump_names.specs.NamesText.{entries_of_family}
use Rattle.minidump_names.proofs.table.entries_of_family.Given as goal

abbrev pub invariant-loop-next : goal.invariant-loop-next
invariant-loop-next l = entries_of l.entries.items ≡ entries_of_family (map listing_of (take l.next-index l.listings)) l.family
