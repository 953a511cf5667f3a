-- The indices of modules by address: the pairs that a set of Rust's keeps ascend.
use Rattle.std.proofs.Common.{◌≡◌, ◌∙◌, ℕ, ◌+◌, List, [], ◌∷◌, ap, map, refl, rules, tests}
use Rattle.std.specs.BTreeSet.{IsFromIterResult}
use Rattle.std.specs.List.{enumerate_from}
use Rattle.crash_process.specs.declared.modules.CrashModule.{CrashModule}
use Rattle.crash_process.specs.Ascending.{ascending}
use Rattle.crash_process.specs.Modules.{loaded_of, pair_cmp}
use Rattle.crash_process.proofs.Ascending.{keys_ascend, one_ascends, pairs_exact, pairs_total}
use Rattle.std.proofs.lemmas.Iterator.{YieldsList-from_map, YieldsList-from_slice, items_from_collect}
use Rattle.std.proofs.lemmas.Iterator.Adapters.{fact_from_collect}
use Rattle.std.proofs.lemmas.Iterator.Consumers.{YieldsList-at, YieldsList-from_enumerate, YieldsList-from_rest}
use Rattle.crash_process.proofs.modules.by_address.Goals as goal

-- the bases with their indices
numbered : (n : ℕ) (modules : List CrashModule)
    → map (λ p. (p.1.base, p.0)) (enumerate_from n modules) ≡ map {B = ℕ × ℕ} (λ p. (p.1.base, p.0)) (enumerate_from n (map loaded_of modules))
numbered n [] = refl
numbered n (m ∷ ms) = ap (λ l. (m.base, n) ∷ l) (numbered (n + 1) ms)

pub returns : goal.returns
returns c =
    let modules = c.args.modules.now in
    let bases = c.in_ok-bases.bases in
    let made = fact_from_collect (IsFromIterResult pair_cmp) c.collect.result c.collect.ensures.ran
    (YieldsList-from_map _ (λ p. (p.1.base, p.0))
    (YieldsList-at c.map.ensures.source
    (YieldsList-from_enumerate (YieldsList-at c.enumerate.ensures.source (YieldsList-from_slice modules c.iter.ensures.rest)) c.enumerate.ensures.count))
    c.map.ensures.closure (λ x r q k. search (rules, tests))) in
    let order = (one_ascends pair_cmp pairs_total pairs_exact _ _).0 (keys_ascend pair_cmp pairs_total pairs_exact _ bases (rw c.in_ok-bases.was at made)) ∙ ap (ascending pair_cmp) (numbered 0 modules) in
    rw (← order) (items_from_collect _ c.collect-2.ensures.ran
    (YieldsList-from_map _ (λ p. p.1) (YieldsList-at c.map-2.ensures.source (YieldsList-from_rest bases.keys c.iter-2.ensures.rest))
    c.map-2.ensures.closure (λ x r q k. search (rules, tests))))
