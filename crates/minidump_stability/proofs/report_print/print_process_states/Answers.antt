-- The states with their indexes.
use Rattle.std.proofs.Common.{rules, ℕ, List, map}
use Rattle.std.specs.List.{enumerate_from}
use Rattle.std.proofs.lemmas.Iterator.{YieldsList-from_map_by, YieldsList-from_slice}
use Rattle.std.proofs.lemmas.Iterator.Consumers.{YieldsList-at, YieldsList-from_enumerate}
use Rattle.std.proofs.lemmas.List.Folds.{flat_map-map}
use Rattle.minidump_stability.specs.declared.report.ProcessState.{ProcessState}
use Rattle.minidump_stability.specs.ReportText.{process_state_text}
use Rattle.minidump_stability.proofs.report_print.print_process_states.Goals as goal

pub returns : goal.returns
returns g c =
    let line : ℕ × ProcessState → List ℕ = λ p. process_state_text p.0 p.1 in
    let all = enumerate_from 0 c.args.states.now in
    rw (← flat_map-map (λ t. t) line all) (c.print_all.ensures.prints (map line all)
    (YieldsList-from_map_by _ _ line
    (YieldsList-at c.map-texts.ensures.source (YieldsList-from_enumerate (YieldsList-from_slice c.args.states.now (cc)) (cc)))
    c.map-texts.ensures.closure (λ x r q k. search rules)))
