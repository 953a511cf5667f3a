-- The streams so far, and those of the entries that are left, are all.
use Rattle.std.proofs.Common.{◌≡◌, ◌++◌, map}
use Rattle.minidump.specs.DumpValue.{dump_of}
use Rattle.minidump.specs.Streams.{streams_left}
use Rattle.crash_streams.specs.Contents.{contents_of}
use Rattle.crash_process.specs.Directory.{entries_in, entry_in}
use Rattle.crash_process.proofs.directory.directory_of.Given as goal

abbrev pub invariant-loop-entry : goal.invariant-loop-entry
invariant-loop-entry l =
    l.entries.items ++ map (entry_in (dump_of l.dump) (contents_of l.contents)) (streams_left l.entry-iterator)
    ≡ entries_in (dump_of l.dump) (contents_of l.contents)
