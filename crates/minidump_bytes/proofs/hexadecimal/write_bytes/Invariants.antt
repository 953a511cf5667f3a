-- The digits of the bytes below the index were written.
use Rattle.std.proofs.Common.{◌≡◌, take, false}
use Rattle.std.specs.Io.KnownBytes.{Appends}
use Rattle.hex.specs.Hex.{encode_lower}
use Rattle.minidump_bytes.proofs.hexadecimal.write_bytes.Given as goal

abbrev pub invariant-loop-byte : goal.invariant-loop-byte
invariant-loop-byte g l = record {
  grown : Appends (g.W.Write.contents l.fn.f.device) (g.W.Write.contents l.f.device) (encode_lower (take l.byte-index l.bytes));
  alive : l.f.failed ≡ false;
}
