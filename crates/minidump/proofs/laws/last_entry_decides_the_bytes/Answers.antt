-- The entry that decides is the last one.
use Rattle.std.proofs.Common.{refl}
use Rattle.minidump.proofs.LawsLemmas.{deciding_entry-last}
use Rattle.minidump.proofs.laws.last_entry_decides_the_bytes.Goals as goal

pub returns : goal.returns
returns c d es later e is others = rw (is, deciding_entry-last es later e others) refl
