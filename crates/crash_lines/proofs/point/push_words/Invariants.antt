-- The lines so far.
use Rattle.std.proofs.Common.{◌≡◌, ◌++◌, map, string_bytes, take}
use Rattle.std.specs.List.{flat_map}
use Rattle.crash_process.specs.Modules.{loaded_of}
use Rattle.crash_lines.specs.Lines.{line_of}
use Rattle.crash_lines.specs.Point.{word_line}
use Rattle.crash_lines.proofs.point.push_words.Given as goal

abbrev pub invariant-loop-word : goal.invariant-loop-word
invariant-loop-word l = string_bytes l.out ≡ string_bytes l.initial.out ++ flat_map line_of (map (word_line (map loaded_of l.modules)) (take l.word-index l.words))
