-- Each line that is passed over has no pair.
use Rattle.std.proofs.Common.{◌≡◌, length}
use Rattle.std.specs.List.{filter_map}
use Rattle.minidump_records.specs.Linux.Pairs.{pair_of}
use Rattle.minidump_records.proofs.linux.pairs.LinuxPairsIterator.next.Given as goal

abbrev pub invariant-loop-line : goal.invariant-loop-line
invariant-loop-line l = l.fn.self ≡ filter_map (pair_of l.self-inside.separator) l.self-inside.lines

abbrev pub decreases-loop-line : goal.decreases-loop-line
decreases-loop-line l = length l.self-inside.lines
