-- The lemmas on the last information of a thread.
use Rattle.minidump_records.proofs.ThreadLemmas.{last_info-found, last_info-none}
use Rattle.minidump_records.proofs.laws.last_info_of_a_thread_is_found.Goals as goal

pub returns-clause-last : goal.returns-clause-last
returns-clause-last c = last_info-found

pub returns-clause-none : goal.returns-clause-none
returns-clause-none c = last_info-none
