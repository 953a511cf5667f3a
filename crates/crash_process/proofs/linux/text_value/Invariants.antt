-- The first value of the pairs that are left is that of all.
use Rattle.std.proofs.Common.{◌≡◌}
use Rattle.minidump.specs.Below.Records.Pairs.{pairs_of}
use Rattle.minidump.specs.Promise.{linux_lsb_release_stream}
use Rattle.crash_process.specs.Release.{first_value}
use Rattle.crash_process.proofs.linux.text_value.Given as goal

abbrev pub invariant-loop-name : goal.invariant-loop-name
invariant-loop-name l =
    first_value l.name-iterator l.key l.other ≡ first_value (pairs_of 0x3d (linux_lsb_release_stream.value l.stream)) l.key l.other
