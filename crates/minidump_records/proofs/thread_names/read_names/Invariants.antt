-- The map has the last names of the entries so far, each read once, as its name is, and those that name
-- a text where none is are counted.
use Rattle.std.proofs.Common.{◌≡◌, ◌≤◌, ◌^◌, ◌*◌, take}
use Rattle.std.specs.Prelude.{count_by, string_bytes}
use Rattle.std.specs.List.{filter_map}
use Rattle.minidump_bytes.specs.Source.{bytes_of}
use Rattle.minidump_bytes.specs.Steps.{after}
use Rattle.minidump_records.specs.ThreadNames.{is_unreadable, thread_name_in}
use Rattle.minidump_records.proofs.ThreadLemmas.{HasLast}
use Rattle.minidump_records.proofs.thread_names.read_names.Given as goal

abbrev pub invariant-loop-index : goal.invariant-loop-index
invariant-loop-index l = record {
  last : HasLast string_bytes (2 ^ 32) l.names (filter_map (thread_name_in l.endian (bytes_of l.all)) (take l.index l.raws));
  counted : l.unreadable ≡ count_by (is_unreadable l.endian (bytes_of l.all)) (take l.index l.raws);
  bounded : l.unreadable ≤ l.index;
  reads : l.steps ≡ after l.fn.steps (2 * l.index);
}
