-- The return address of a caller is the second word of a record, that of a candidate is the word
-- itself or the link register.
use Rattle.stack_walk.proofs.EvidenceLemmas.{all_evidence}
use Rattle.stack_walk.proofs.laws.each_caller_has_its_evidence.Goals as goal

pub returns : goal.returns
returns c = all_evidence
