-- The number of the digits so far, none of which is the byte.
use Rattle.std.proofs.Common.{◌≡◌, ◌<◌, ◌^◌, take}
use Rattle.std.specs.Str.Parse.{AllDigits, digits_value}
use Rattle.minidump_bytes.specs.Cut.{Lacks}
use Rattle.minidump_memory.proofs.map_text.number_before.Given as goal

abbrev pub invariant-loop-at : goal.invariant-loop-at
invariant-loop-at l = record {
  value : l.value ≡ digits_value l.base (take l.at l.text);
  digits : AllDigits l.base (take l.at l.text);
  fits : l.value < 2 ^ 64;
  lacks : Lacks l.byte (take l.at l.text);
}
