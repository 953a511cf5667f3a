-- The words of the registers so far.
use Rattle.std.proofs.Common.{◌≡◌, ◌++◌, map, string_bytes, take}
use Rattle.std.specs.List.{flat_map}
use Rattle.crash_lines.specs.Point.{register_words}
use Rattle.crash_lines.proofs.parts.push_registers.Given as goal

abbrev pub invariant-loop-register : goal.invariant-loop-register
invariant-loop-register l = string_bytes l.out
    ≡ string_bytes l.initial.out ++ flat_map (register_words l.size) (map (λ r. (r.0.now, r.1)) (take l.register-index l.registers))
