-- The lemmas on the last name of a thread.
use Rattle.std.proofs.Common.{◌^◌}
use Rattle.minidump_records.proofs.ThreadLemmas.{last_name-found, last_name-none}
use Rattle.minidump_records.proofs.laws.last_name_of_a_thread_is_kept.Goals as goal

pub returns-clause-last : goal.returns-clause-last
returns-clause-last c = last_name-found (2 ^ 32)

pub returns-clause-none : goal.returns-clause-none
returns-clause-none c = last_name-none (2 ^ 32)
