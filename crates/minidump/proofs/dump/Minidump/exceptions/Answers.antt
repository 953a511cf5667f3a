-- Memory is taken for an entry alone, and there are as many as the header counts.
use Rattle.std.proofs.Common.{◌<◌, arith, rules}
use Rattle.minidump_bytes.proofs.EntryLemmas.{length-entries}
use Rattle.minidump_bytes.specs.Source.{bytes_of}
use Rattle.minidump_format.specs.Header.{directory_entry}
use Rattle.minidump.proofs.dump.Minidump.exceptions.Goals as goal

pub returns-in_err-push-clause-memory : goal.returns-in_err-push-clause-memory
returns-in_err-push-clause-memory c =
    let dump = c.args.self.now in
    let entries = length-entries directory_entry dump.endian (bytes_of dump.source) dump.header.stream_directory_rva dump.header.stream_count in
    let some : 0 < dump.header.stream_count = grind (arith, c.loop-index-test.true, c.len-index-end.ensures, c.all_entries-entries.ensures.entries, entries) in
    search (rules, some, c.from_residual.ensures.1)
