-- The entries so far are counted.
use Rattle.std.proofs.Common.{◌≡◌, ◌≤◌, count_by, take}
use Rattle.minidump.specs.DumpValue.{dump_of}
use Rattle.minidump.specs.Dump.{all_entries}
use Rattle.crash_process.specs.Directory.{is_lost}
use Rattle.crash_process.proofs.directory.outside_of.Given as goal

abbrev pub invariant-loop-index : goal.invariant-loop-index
invariant-loop-index l = record {
  counted : l.count ≡ count_by (is_lost (dump_of l.dump)) (take l.index (all_entries (dump_of l.dump)));
  bounded : l.count ≤ l.index;
}
