-- A register is valid by any of its names.
use Rattle.minidump_context.proofs.LawLemmas.{valid_by_any}
use Rattle.minidump_context.proofs.laws.any_name_makes_a_register_valid.Goals as goal

pub returns : goal.returns
returns g c = λ valid name member index named other known. valid_by_any valid _ _ name member index named other known
