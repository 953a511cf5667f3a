-- The lemmas on a stream and its entry.
use Rattle.minidump.proofs.EntryLemmas.{bytes_have_entry, memory_has_entry, stream_has_entry}
use Rattle.minidump.proofs.laws.a_found_stream_has_an_entry.Goals as goal

pub returns-clause-bytes : goal.returns-clause-bytes
returns-clause-bytes g c d stream_type found = bytes_have_entry d stream_type found

pub returns-clause-found : goal.returns-clause-found
returns-clause-found g c d found = stream_has_entry g.S.MinidumpStream.spec d found

pub returns-clause-memory : goal.returns-clause-memory
returns-clause-memory g c d takes = memory_has_entry g.S.MinidumpStream.spec d takes
