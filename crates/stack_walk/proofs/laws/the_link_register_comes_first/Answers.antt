-- The steps that look for the candidate are the parts of the relation. It heads the list that the scan
-- takes from, whose other candidates stand in the stack.
use Rattle.stack_walk.proofs.EvidenceLemmas.{first_of_scan, is_found, is_linked, only_link}
use Rattle.stack_walk.proofs.laws.the_link_register_comes_first.Goals as goal

pub returns-clause-exact : goal.returns-clause-exact
returns-clause-exact c s link frames f = (is_found s link frames f, is_linked s link frames f)

pub returns-clause-first : goal.returns-clause-first
returns-clause-first c = first_of_scan

pub returns-clause-only : goal.returns-clause-only
returns-clause-only c = only_link
