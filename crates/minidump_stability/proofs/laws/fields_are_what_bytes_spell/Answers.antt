-- By the lemma on all bytes.
use Rattle.minidump_stability.proofs.FieldLemmas.{fields_are_spelled}
use Rattle.minidump_stability.proofs.laws.fields_are_what_bytes_spell.Goals as goal

pub returns : goal.returns
returns c = fields_are_spelled
