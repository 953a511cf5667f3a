-- The pairs of the modules, ascending.
use Rattle.std.proofs.Common.{◌∙◌, ap, map, refl}
use Rattle.crash_process.specs.Ascending.{ascending}
use Rattle.crash_process.specs.Modules.{bases_of, pair_cmp}
use Rattle.crash_process.proofs.Ascending.{one_ascends, pairs_exact, pairs_total}
use Rattle.crash_process.proofs.laws.modules_are_by_address.Goals as goal

pub returns : goal.returns
returns c = λ modules indices.
    let one = one_ascends pair_cmp pairs_total pairs_exact (bases_of modules) in
    (λ h. h.2 ∙ ap (map (λ p. p.1)) ((one h.0).0 h.1), λ is. (ascending pair_cmp (bases_of modules), (one _).1 refl, is))
