-- Pairs put into a map are the one dictionary of them.
use Rattle.minidump_records.proofs.CrashpadLemmas.Dictionary.{the_dictionary}
use Rattle.minidump_records.proofs.laws.dictionaries_have_the_last_values.Goals as goal

pub returns-clause-texts : goal.returns-clause-texts
returns-clause-texts c pairs es = the_dictionary pairs es

pub returns-clause-annotations : goal.returns-clause-annotations
returns-clause-annotations c pairs es = the_dictionary pairs es
