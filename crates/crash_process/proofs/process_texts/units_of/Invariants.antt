-- The units so far.
use Rattle.std.proofs.Common.{◌≡◌, ◌/◌, length, take}
use Rattle.minidump.specs.Below.Bytes.Text16.{units_at}
use Rattle.crash_process.proofs.process_texts.units_of.Given as goal

abbrev pub invariant-loop-index : goal.invariant-loop-index
invariant-loop-index l =
    l.units.items ≡ take l.index (units_at l.fn.endian 0 (length l.bytes / 2) l.bytes)
