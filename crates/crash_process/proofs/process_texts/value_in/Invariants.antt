-- The value of the pairs that are left is that of all.
use Rattle.std.proofs.Common.{◌≡◌}
use Rattle.crash_process.specs.ProcessTexts.{value_in}
use Rattle.crash_process.proofs.process_texts.value_in.Given as goal

abbrev pub invariant-loop-name : goal.invariant-loop-name
invariant-loop-name l = value_in l.key l.name-iterator ≡ value_in l.key l.fn.pairs
