-- The parameters so far.
use Rattle.std.proofs.Common.{◌≡◌, ◌++◌, string_bytes, take}
use Rattle.std.specs.List.{flat_map}
use Rattle.crash_lines.specs.Exceptions.{parameter_words}
use Rattle.crash_lines.proofs.parts.push_parameters.Given as goal

abbrev pub invariant-loop-other : goal.invariant-loop-other
invariant-loop-other l = string_bytes l.out ≡ string_bytes l.initial.out ++ flat_map parameter_words (take l.other-index l.others)
