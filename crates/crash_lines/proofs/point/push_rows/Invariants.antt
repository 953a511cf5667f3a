-- What was appended, and the rows that are left, are all.
use Rattle.std.proofs.Common.{◌≡◌, ◌++◌, map, string_bytes}
use Rattle.std.specs.List.{flat_map}
use Rattle.std.specs.Slice.Iter.{chunks_rest, chunks_size}
use Rattle.crash_lines.specs.Lines.{line_of}
use Rattle.crash_lines.specs.Point.{register_row, rows}
use Rattle.crash_lines.proofs.point.push_rows.Given as goal

abbrev pub invariant-loop-row : goal.invariant-loop-row
invariant-loop-row l = record {
  size : chunks_size l.row-iterator ≡ 4;
  whole : string_bytes l.out ++ flat_map line_of (map (register_row l.size) (rows (map (λ r. (r.0.now, r.1)) (chunks_rest l.row-iterator))))
      ≡ string_bytes l.fn.out ++ flat_map line_of (map (register_row l.size) (rows (map (λ r. (r.0.now, r.1)) l.registers)));
}
