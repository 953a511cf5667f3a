-- The test goes field by field.
use Rattle.std.proofs.Common.{rules}
use Rattle.minidump_stability.proofs.ExactLemmas.{state_eq-Decides}
use Rattle.minidump_stability.proofs.laws.process_states_compare_and_copy_exactly.Goals as goal

pub returns : goal.returns
returns c = record { equal = state_eq-Decides; copy = λ x y h. Prim.search rules }
