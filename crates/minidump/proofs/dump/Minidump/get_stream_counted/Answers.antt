-- The bytes that are read have an entry.
use Rattle.std.proofs.Common.{refl}
use Rattle.minidump.specs.DumpValue.{dump_of}
use Rattle.minidump.proofs.EntryLemmas.{bytes_have_entry, on_ok, on_no_memory}
use Rattle.minidump.proofs.dump.Minidump.get_stream_counted.Goals as goal

pub returns-clause-entry : goal.returns-clause-entry
returns-clause-entry g c =
    on_ok c.read.result (bytes_have_entry (dump_of c.args.self.now) c.number_of_type.result (rw (← c.args.self.now.decides.at c.number_of_type.result)
    (rw (rw c.as_slice-entries.ensures.value at c.in_ok-bytes.ensures.means) refl)))

pub returns-clause-memory : goal.returns-clause-memory
returns-clause-memory g c =
    on_no_memory c.read.result (bytes_have_entry (dump_of c.args.self.now) c.number_of_type.result (rw (← c.args.self.now.decides.at c.number_of_type.result)
    (rw (rw c.as_slice-entries.ensures.value at c.in_ok-bytes.ensures.means) refl)))
