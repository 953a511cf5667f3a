-- The words of the flags so far.
use Rattle.std.proofs.Common.{◌≡◌, ◌++◌, map, string_bytes, take}
use Rattle.std.specs.List.{flat_map}
use Rattle.crash_lines.specs.Point.{flag_words}
use Rattle.crash_lines.proofs.parts.push_flags.Given as goal

abbrev pub invariant-loop-flag : goal.invariant-loop-flag
invariant-loop-flag l = string_bytes l.out ≡ string_bytes l.fn.out ++ flat_map flag_words (map (λ r. (r.0.now, r.1)) (take l.flag-index l.flags))
