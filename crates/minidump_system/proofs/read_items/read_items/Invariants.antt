-- The items of the entries so far, and the reads made for them.
use Rattle.std.proofs.Common.{◌≡◌, ◌+◌, ◌*◌, ◌≤◌, length, map, take, Ok}
use Rattle.std.specs.List.{sum_by}
use Rattle.minidump_bytes.specs.Source.{bytes_of}
use Rattle.minidump_bytes.specs.Steps.{after}
use Rattle.minidump_system.specs.Reads.{all_kept}
use Rattle.minidump_system.proofs.read_items.read_items.Given as goal

abbrev pub invariant-loop-index : goal.invariant-loop-index
invariant-loop-index g l = record {
  items : all_kept (g.L.ReadEntry.entry_value l.reader l.endian (bytes_of l.all)) (take l.index l.entries) ≡ Ok (map g.L.ReadEntry.value l.items.items);
  within : l.steps ≤ l.fn.steps + l.index * (1 + g.L.ReadEntry.most (length (bytes_of l.all)));
  grows : l.fn.steps ≤ l.steps;
  least : after l.fn.steps (l.index + (sum_by g.L.ReadEntry.fewest (take l.index l.entries) + sum_by g.L.ReadEntry.fewest_of (map g.L.ReadEntry.value l.items.items))) ≤ l.steps;
}
