-- The regions by address, each as a row.
use Rattle.std.proofs.Common.{◌≡◌, map, refl, rules, tests}
use Rattle.std.specs.Prelude.{Some}
use Rattle.std.proofs.lemmas.Iterator.{YieldsList-from_map, items_from_collect}
use Rattle.std.proofs.lemmas.Iterator.Consumers.{YieldsList-at, YieldsList-from_first}
use Rattle.std.proofs.lemmas.Result.{IfOk-weaker}
use Rattle.minidump.specs.Below.MemoryLists.Unified.{unified_region}
use Rattle.minidump.specs.Below.MemoryLists.UnifiedIter.{regions_by_address}
use Rattle.minidump_c.specs.Memory.{row_of}
use Rattle.minidump_c.proofs.memory.region_rows.Goals as goal

pub returns : goal.returns
returns c =
    let given = regions_by_address c.by_addr.result in
    IfOk-weaker c.collect.result (λ rows. rows.items ≡ map (λ r. row_of (Some r)) given) _ (λ rows same. (given, c.by_addr.ensures, same))
    (items_from_collect _ c.collect.ensures.ran (YieldsList-from_map _ (λ r. row_of (Some r))
    (YieldsList-at c.map.ensures.source (YieldsList-from_first unified_region regions_by_address given refl)) c.map.ensures.closure
    (λ x r q k. search (rules, tests))))
