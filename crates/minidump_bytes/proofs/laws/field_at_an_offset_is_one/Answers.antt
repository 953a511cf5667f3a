-- The law holds by its lemma.
use Rattle.minidump_bytes.proofs.WireFieldLemmas.{one_there}
use Rattle.minidump_bytes.proofs.laws.field_at_an_offset_is_one.Goals as goal

pub returns : goal.returns
returns c = one_there
