-- Reasons are compared variant by variant.
use Rattle.std.proofs.Common.{rules}
use Rattle.minidump_reason.proofs.ExactLemmas.{reason_test}
use Rattle.minidump_reason.proofs.laws.reasons_compare_and_copy_exactly.Goals as goal

pub returns : goal.returns
returns c = record { equal = reason_test; copy = λ x y h. Prim.search rules }
