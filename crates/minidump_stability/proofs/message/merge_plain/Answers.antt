-- Memory is taken for no field.
use Rattle.minidump_stability.proofs.MergeLemmas.{gives_plain}
use Rattle.minidump_stability.proofs.message.merge_plain.Goals as goal

pub returns-clause-means : goal.returns-clause-means
returns-clause-means g c = gives_plain _ _ _ _ _ g.met.M.Plain.plain c.merge.ensures.means
