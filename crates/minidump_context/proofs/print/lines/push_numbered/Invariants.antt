-- The lines that were pushed, and those that are left, are all.
use Rattle.std.proofs.Common.{◌≡◌, ◌++◌, drop}
use Rattle.std.specs.List.{enumerate_from, flat_map}
use Rattle.minidump_context.specs.Text.{front_text, register_line}
use Rattle.minidump_context.proofs.print.lines.push_numbered.Given as goal

abbrev pub invariant-loop-number : goal.invariant-loop-number
invariant-loop-number g l =
    l.out.items ++ flat_map (λ r. register_line (front_text l.front r.0) (g.T.RegisterValue.number r.1)) (enumerate_from l.number (drop l.number l.values))
    ≡ l.fn.out.items ++ flat_map (λ r. register_line (front_text l.front r.0) (g.T.RegisterValue.number r.1)) (enumerate_from 0 l.values)
