-- The lines of the rows below the index were pushed.
use Rattle.std.proofs.Common.{◌≡◌, ◌++◌, take}
use Rattle.std.specs.List.{flat_map}
use Rattle.minidump_context.specs.Text.{register_line}
use Rattle.minidump_context.proofs.print.lines.push_registers.Given as goal

abbrev pub invariant-loop-row : goal.invariant-loop-row
invariant-loop-row l = l.out.items ≡ l.fn.out.items ++ flat_map (λ r. register_line r.0.now r.1) (take l.row-index l.rows)
