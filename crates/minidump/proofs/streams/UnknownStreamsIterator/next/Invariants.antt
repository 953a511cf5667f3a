-- Each entry that is passed over has a name.
use Rattle.std.proofs.Common.{◌≡◌, length}
use Rattle.minidump.specs.Streams.{streams_left, unknown_left}
use Rattle.minidump.proofs.streams.UnknownStreamsIterator.next.Given as goal

abbrev pub invariant-loop-entry : goal.invariant-loop-entry
invariant-loop-entry l = unknown_left l.fn.self ≡ unknown_left l.self

abbrev pub decreases-loop-entry : goal.decreases-loop-entry
decreases-loop-entry l = length (streams_left l.self.streams)
