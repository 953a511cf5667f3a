-- Each entry that is passed over has no name, or is read.
use Rattle.std.proofs.Common.{◌≡◌, length}
use Rattle.minidump.specs.Streams.{streams_left, unimplemented_left}
use Rattle.minidump.proofs.streams.UnimplementedStreamsIterator.next.Given as goal

abbrev pub invariant-loop-entry : goal.invariant-loop-entry
invariant-loop-entry l = unimplemented_left l.fn.self ≡ unimplemented_left l.self

abbrev pub decreases-loop-entry : goal.decreases-loop-entry
decreases-loop-entry l = length (streams_left l.self.streams)
