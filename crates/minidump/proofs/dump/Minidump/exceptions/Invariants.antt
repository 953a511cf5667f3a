-- The exceptions of the entries so far.
use Rattle.std.proofs.Common.{◌≡◌, map, take}
use Rattle.minidump_context.specs.Context.{map_ok}
use Rattle.minidump.specs.Dump.{all_entries}
use Rattle.minidump.specs.DumpValue.{dump_of}
use Rattle.minidump.specs.Exception.{exception_stream}
use Rattle.minidump.specs.Exceptions.{exceptions_among}
use Rattle.minidump.proofs.dump.Minidump.exceptions.Given as goal

abbrev pub invariant-loop-index : goal.invariant-loop-index
invariant-loop-index l =
    map (map_ok exception_stream.value) l.exceptions.items ≡ exceptions_among (dump_of l.self) (take l.index (all_entries (dump_of l.self)))
