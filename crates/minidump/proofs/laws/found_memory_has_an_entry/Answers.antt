-- The lemmas on memory and its entry.
use Rattle.minidump.proofs.EntryLemmas.{regions_have_entry, regions_take_entry}
use Rattle.minidump.proofs.laws.found_memory_has_an_entry.Goals as goal

pub returns-clause-found : goal.returns-clause-found
returns-clause-found c d some = regions_have_entry d some

pub returns-clause-memory : goal.returns-clause-memory
returns-clause-memory c d takes = regions_take_entry d takes
