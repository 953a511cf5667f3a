-- The characters of the code units below the index were pushed.
use Rattle.std.proofs.Common.{◌≡◌, ◌++◌, ◌-◌, drop, encode_utf8_all, string_bytes}
use Rattle.std.specs.Char.Utf16.{has_unpaired_surrogate, utf16_lossy_chars}
use Rattle.minidump_bytes.specs.Text16.{units_at}
use Rattle.minidump_bytes.proofs.text16.decode_chars.Given as goal

abbrev pub invariant-loop-at : goal.invariant-loop-at
invariant-loop-at l = let units = units_at l.endian l.offset l.count l.bytes in record {
  text : string_bytes l.text ++ encode_utf8_all (utf16_lossy_chars (drop l.at units)) ≡ encode_utf8_all (utf16_lossy_chars units);
  paired : has_unpaired_surrogate (drop l.at units) ≡ has_unpaired_surrogate units;
}

abbrev pub decreases-loop-at : goal.decreases-loop-at
decreases-loop-at l = l.count - l.at
