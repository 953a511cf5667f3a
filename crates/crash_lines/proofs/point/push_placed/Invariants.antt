-- The lines so far.
use Rattle.std.proofs.Common.{◌≡◌, ◌++◌, map, string_bytes, take}
use Rattle.std.specs.List.{flat_map}
use Rattle.crash.specs.Crash.{crash_of}
use Rattle.crash_lines.specs.Lines.{line_of}
use Rattle.crash_lines.specs.Point.{if_placed}
use Rattle.crash_lines.proofs.point.push_placed.Given as goal

abbrev pub invariant-loop-register : goal.invariant-loop-register
invariant-loop-register l =
    string_bytes l.out ≡ string_bytes l.initial.out ++ flat_map line_of (flat_map (if_placed (crash_of l.crash)) (map (λ r. (r.0.now, r.1)) (take l.register-index l.registers)))
