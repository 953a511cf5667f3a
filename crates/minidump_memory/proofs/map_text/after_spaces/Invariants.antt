-- The rest trims to the same text, and begins with a character.
use Rattle.std.proofs.Common.{◌≡◌, drop}
use Rattle.std.specs.Str.{IsCharBoundary, trim}
use Rattle.minidump_memory.proofs.map_text.after_spaces.Given as goal

abbrev pub invariant-loop-at : goal.invariant-loop-at
invariant-loop-at l = record {
  same : trim (drop l.at l.text) ≡ trim l.text;
  cut : IsCharBoundary l.text l.at;
}
