-- Those of the arguments, and then those of the parts of the list that are paths.
use Rattle.std.proofs.Common.{rules, tests}
use Rattle.std.proofs.lemmas.Iterator.{YieldsList-from_map_by, YieldsList-from_slice}
use Rattle.std.proofs.lemmas.Iterator.Consumers.{YieldsList-at, YieldsList-from_chain, YieldsList-from_filter, map_from_collect}
use Rattle.std.proofs.lemmas.Iterator.Splits.{YieldsList-from_slice_split}
use Rattle.whocrashed_inputs.specs.Input.{asked_of, by_argument, by_list, is_path}
use Rattle.whocrashed_inputs.proofs.input.dumps_in.Goals as goal

pub returns : goal.returns
returns c = map_from_collect _ c.collect.ensures.ran (YieldsList-from_chain
    (YieldsList-at c.chain.ensures.first (YieldsList-from_map_by _ asked_of (λ a. by_argument a.now)
    (YieldsList-at c.map.ensures.source (YieldsList-from_slice c.args.arguments.now c.iter.ensures.rest))
    c.map.ensures.closure (λ x r q k. search (rules, tests))))
    (YieldsList-at c.chain.ensures.second (YieldsList-from_map_by _ asked_of by_list
    (YieldsList-at c.map-2.ensures.source (YieldsList-from_filter _ is_path
    (YieldsList-at c.filter-paths.ensures.source (YieldsList-from_slice_split _ _ c.args.list.now c.split.ensures.rest c.split.ensures.done
    c.split.ensures.closure (λ x r q k. search (rules, tests))))
    c.filter-paths.ensures.closure (λ x r q k. search (rules, tests))))
    c.map-2.ensures.closure (λ x r q k. search (rules, tests))))
    c.chain.ensures.first_done c.chain.ensures.second_done)
