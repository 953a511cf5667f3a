-- The character was pushed as often as counted.
use Rattle.std.proofs.Common.{◌≡◌, ◌++◌, replicate, slice_index}
use Rattle.minidump_bytes.proofs.piece.push_fill.Given as goal

abbrev pub invariant-loop : goal.invariant-loop
invariant-loop g l = g.T.TextBuffer.bytes l.out ≡ g.T.TextBuffer.bytes l.fn.out ++ replicate l.counter (slice_index l.fill 0)
