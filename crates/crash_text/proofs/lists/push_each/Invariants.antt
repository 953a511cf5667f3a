-- The lines so far.
use Rattle.std.proofs.Common.{◌≡◌, ◌++◌, map, string_bytes, take}
use Rattle.std.specs.List.{flat_map}
use Rattle.crash_lines.specs.Lines.{line_of}
use Rattle.crash_text.proofs.lists.push_each.Given as goal

abbrev pub invariant-loop-item : goal.invariant-loop-item
invariant-loop-item g l = string_bytes l.out ≡ string_bytes l.fn.out ++ flat_map line_of (map g.T.Line.line (map g.T.Line.value_of (take l.item-index l.items)))
