-- The lines that were pushed, and those that are left, are all.
use Rattle.std.proofs.Common.{◌≡◌, ◌++◌, drop}
use Rattle.std.specs.List.{enumerate_from, flat_map}
use Rattle.minidump.specs.Exception.{parameter_line}
use Rattle.minidump.proofs.exception.push_each_parameter.Given as goal

abbrev pub invariant-loop-index : goal.invariant-loop-index
invariant-loop-index l =
    l.out.items ++ flat_map (λ p. parameter_line p.0 p.1) (enumerate_from l.index (drop l.index l.parameters))
    ≡ l.fn.out.items ++ flat_map (λ p. parameter_line p.0 p.1) (enumerate_from 0 l.parameters)
