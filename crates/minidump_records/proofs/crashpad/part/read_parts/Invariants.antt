-- The parts of the entries so far, and the reads so far.
use Rattle.std.proofs.Common.{◌≡◌, ◌+◌, ◌*◌, ◌≤◌, length, map, Ok}
use Rattle.std.specs.List.{sum_by}
use Rattle.minidump_bytes.specs.Source.{bytes_of}
use Rattle.minidump_bytes.specs.Steps.{after}
use Rattle.minidump_records.specs.Crashpad.Parts.{each, part_at}
use Rattle.minidump_records.proofs.crashpad.part.read_parts.Given as goal

abbrev pub invariant-loop-i : goal.invariant-loop-i
invariant-loop-i g l = record {
  parts : each (part_at g.E.Record.layout g.P.Part.part l.endian (bytes_of l.all) (bytes_of l.bytes)) l.i ≡ Ok (map g.P.Part.value l.parts.items);
  within : l.steps ≤ l.fn.steps + l.i * (1 + g.P.Part.most (length (bytes_of l.all)));
  few : length l.parts.items ≤ l.i;
  room : g.E.Record.layout.size * l.i ≤ length (bytes_of l.bytes);
  grows : l.fn.steps ≤ l.steps;
  least : after l.fn.steps (sum_by (λ p. 1 + g.P.Part.fewest p) (map g.P.Part.value l.parts.items)) ≤ l.steps;
}
