-- The lines of the texts so far.
use Rattle.std.proofs.Common.{◌≡◌, ◌++◌, map, string_bytes, take}
use Rattle.std.specs.List.{flat_map}
use Rattle.crash_lines.specs.Messages.{unnamed_row}
use Rattle.crash_lines.specs.Lines.{line_of}
use Rattle.crash_lines.proofs.messages.push_unnamed.Given as goal

abbrev pub invariant-loop-text : goal.invariant-loop-text
invariant-loop-text l = string_bytes l.out ≡ string_bytes l.fn.out ++ flat_map line_of (map unnamed_row (map string_bytes (take l.text-index l.texts)))
