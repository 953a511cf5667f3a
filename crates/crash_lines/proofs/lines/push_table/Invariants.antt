-- The lines of the rows so far.
use Rattle.std.proofs.Common.{◌≡◌, ◌++◌, string_bytes, take}
use Rattle.std.specs.List.{flat_map}
use Rattle.crash_lines.specs.Lines.{line_of, row_of}
use Rattle.crash_lines.specs.Parts.{part_text}
use Rattle.crash_lines.proofs.lines.push_table.Given as goal

abbrev pub invariant-loop-row : goal.invariant-loop-row
invariant-loop-row l = string_bytes l.out
    ≡ string_bytes l.fn.out ++ flat_map line_of (flat_map (λ parts. row_of (flat_map part_text parts.now)) (take l.row-index l.rows))
