-- The lemma on the last entry of a type.
use Rattle.minidump.proofs.LawsLemmas.{deciding_entry-last}
use Rattle.minidump.proofs.laws.last_entry_decides.Goals as goal

pub returns : goal.returns
returns c = deciding_entry-last
