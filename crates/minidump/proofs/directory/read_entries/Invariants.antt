-- The entries so far, each read once.
use Rattle.std.proofs.Common.{◌≡◌, ◌+◌, ◌*◌, ◌^◌, ◌≤◌, ◌<◌, All, length}
use Rattle.minidump_bytes.specs.Steps.{after}
use Rattle.minidump_bytes.specs.Source.{bytes_of}
use Rattle.minidump_bytes.specs.Entries.{entries}
use Rattle.minidump_format.specs.Header.{directory_entry}
use Rattle.minidump.specs.Deciding.{type_of}
use Rattle.minidump.specs.Directory.{with_indices}
use Rattle.minidump.proofs.directory.read_entries.Given as goal

abbrev pub invariant-loop-index : goal.invariant-loop-index
invariant-loop-index l = record {
  items : l.entries.items ≡ with_indices (entries directory_entry l.endian (bytes_of l.source) l.header.stream_directory_rva l.index);
  small : All (λ d. type_of d < 2 ^ 32) l.entries.items;
  steps : l.steps ≡ after l.fn.steps l.index;
  readable : 0 < l.index → l.header.stream_directory_rva + 12 * l.index ≤ length (bytes_of l.source);
}
