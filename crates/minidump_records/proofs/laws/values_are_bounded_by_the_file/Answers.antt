-- A span is no longer than its file, and what its bytes name is counted against the file.
use Rattle.minidump_records.proofs.BoundLemmas.{crashpad_within, handles_within, span_length}
use Rattle.minidump_records.proofs.laws.values_are_bounded_by_the_file.Goals as goal

pub returns-clause-handles : goal.returns-clause-handles
returns-clause-handles c order file bytes from to system h = handles_within order file bytes (span_length from to file bytes h)

pub returns-clause-crashpad : goal.returns-clause-crashpad
returns-clause-crashpad c order file bytes from to system h = crashpad_within order file bytes
