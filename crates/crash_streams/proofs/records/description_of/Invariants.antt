-- The bytes of the parameters so far.
use Rattle.std.proofs.Common.{◌≡◌, take}
use Rattle.std.specs.List.{flat_map}
use Rattle.std.specs.Int.{to_le_bytes, w64}
use Rattle.crash_streams.proofs.records.description_of.Given as goal

abbrev pub invariant-loop-parameter : goal.invariant-loop-parameter
invariant-loop-parameter l =
    l.bytes.items ≡ flat_map (to_le_bytes w64) (take l.parameter-index l.raw.exception_information)
