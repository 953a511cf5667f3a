-- The units below the index are ASCII and were pushed, or one of all units isn't.
use Rattle.std.proofs.Common.{◌≡◌, ◌^◌, ◌<◌, ◌≤◌, take}
use Rattle.std.specs.Str.{IsAscii, IsNotAscii}
use Rattle.minidump_bytes.specs.Text16.{units_at}
use Rattle.minidump_bytes.proofs.text16.ascii_at.Given as goal

abbrev pub invariant-loop-i : goal.invariant-loop-i
invariant-loop-i l = record {
  len : l.ascii.len ≡ l.i;
  room : l.ascii.cap ≡ l.count;
  low : l.all < 2 ^ 7 → IsAscii (take l.i (units_at l.endian l.offset l.count l.bytes)) ×
      (l.ascii.items ≡ take l.i (units_at l.endian l.offset l.count l.bytes));
  high : 2 ^ 7 ≤ l.all → IsNotAscii (units_at l.endian l.offset l.count l.bytes);
}
