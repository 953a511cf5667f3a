-- The words of the names so far.
use Rattle.std.proofs.Common.{◌≡◌, ◌++◌, map, string_bytes, take}
use Rattle.std.specs.List.{flat_map}
use Rattle.crash_lines.specs.Point.{set_words}
use Rattle.crash_lines.proofs.parts.push_names.Given as goal

abbrev pub invariant-loop-name : goal.invariant-loop-name
invariant-loop-name l = string_bytes l.out ≡ string_bytes l.initial.out ++ flat_map set_words (map (λ name. name.now) (take l.name-index l.names))
