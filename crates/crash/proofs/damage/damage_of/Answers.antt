-- One list after another.
use Rattle.std.proofs.Common.{◌≡◌, ◌∙◌, ◌-◌, ◌++◌, List, Option, ap, length, refl, rules, take, tests}
use Rattle.std.proofs.lemmas.Iterator.{YieldsList-from_slice, items_from_collect}
use Rattle.std.proofs.lemmas.Iterator.Consumers.{YieldsList-at, YieldsList-from_chain, YieldsList-from_filter_map}
use Rattle.std.specs.List.{filter_map}
use Rattle.minidump.specs.Below.Contexts.Context.{map_ok}
use Rattle.minidump.specs.Promise.{exception_stream}
use Rattle.crash_threads.specs.Cause.{exception_of}
use Rattle.crash.specs.declared.damage.Damage.{Damage}
use Rattle.crash.specs.Damage.{context_damage, exception_damage, exception_error, parameters_damage, stack_damage, stream_damage}
use Rattle.crash_threads.specs.Threads.{thread_value}
use Rattle.crash_process.proofs.Found.{found_in_values, values_before}
use Rattle.crash.proofs.damage.damage_of.Goals as goal

joined : {D : Type 0} (a : List D) {b b' c c' d d' e e' f f' g g' : List D} → b ≡ b' → c ≡ c' → d ≡ d' → e ≡ e' → f ≡ f' → g ≡ g'
    → a ++ b ++ c ++ d ++ e ++ f ++ g ≡ a ++ b' ++ c' ++ d' ++ e' ++ f' ++ g'
joined a same_b same_c same_d same_e same_f same_g = rw (same_b, same_c, same_d, same_e, same_f, same_g) refl

pub returns-clause-damage : goal.returns-clause-damage
returns-clause-damage c =
    let streams = c.as_slice-streams.result.now in
    let counted = c.in_ok-counted.counted in
    let records = c.as_slice-records.result.now in
    let exceptions = c.as_slice-exceptions.result.now in
    let threads = c.as_slice-threads.result.now in
    let before = take (length exceptions - 1) exceptions in
    let made = items_from_collect _ c.collect.ensures.ran
    (YieldsList-from_chain (YieldsList-at c.chain-6.ensures.first (YieldsList-from_chain (YieldsList-at c.chain-5.ensures.first (YieldsList-from_chain (YieldsList-at c.chain-4.ensures.first (YieldsList-from_chain (YieldsList-at c.chain-3.ensures.first (YieldsList-from_chain (YieldsList-at c.chain-2.ensures.first (YieldsList-from_chain (YieldsList-at c.chain.ensures.first (YieldsList-from_filter_map _ stream_damage (YieldsList-at c.filter_map.ensures.source (YieldsList-from_slice streams c.iter.ensures.rest))
    c.filter_map.ensures.closure (λ x r q k. search (rules, tests))))
    (YieldsList-at c.chain.ensures.second (YieldsList-from_filter_map _ (λ (d : Option Damage). d) (YieldsList-at c.filter_map-2.ensures.source (YieldsList-from_slice counted c.iter-2.ensures.rest))
    c.filter_map-2.ensures.closure (λ x r q k. search (rules, tests))))
    c.chain.ensures.first_done c.chain.ensures.second_done))
    (YieldsList-at c.chain-2.ensures.second (YieldsList-from_filter_map _ (λ e. exception_error (map_ok exception_of e)) (YieldsList-at c.filter_map-3.ensures.source (YieldsList-from_slice (take c.saturating_sub.result exceptions) c.iter-3.ensures.rest))
    c.filter_map-3.ensures.closure (λ x r q k. search (rules, tests))))
    c.chain-2.ensures.first_done c.chain-2.ensures.second_done))
    (YieldsList-at c.chain-3.ensures.second (YieldsList-from_filter_map _ (λ e. parameters_damage (map_ok exception_stream.value e)) (YieldsList-at c.filter_map-4.ensures.source (YieldsList-from_slice records c.iter-4.ensures.rest))
    c.filter_map-4.ensures.closure (λ x r q k. search (rules, tests))))
    c.chain-3.ensures.first_done c.chain-3.ensures.second_done))
    (YieldsList-at c.chain-4.ensures.second (YieldsList-from_filter_map _ (λ e. exception_damage (map_ok exception_of e)) (YieldsList-at c.filter_map-5.ensures.source (YieldsList-from_slice exceptions c.iter-5.ensures.rest))
    c.filter_map-5.ensures.closure (λ x r q k. search (rules, tests))))
    c.chain-4.ensures.first_done c.chain-4.ensures.second_done))
    (YieldsList-at c.chain-5.ensures.second (YieldsList-from_filter_map _ (λ t. context_damage (thread_value t)) (YieldsList-at c.filter_map-6.ensures.source (YieldsList-from_slice threads c.iter-6.ensures.rest))
    c.filter_map-6.ensures.closure (λ x r q k. search (rules, tests))))
    c.chain-5.ensures.first_done c.chain-5.ensures.second_done))
    (YieldsList-at c.chain-6.ensures.second (YieldsList-from_filter_map _ (λ t. stack_damage (thread_value t)) (YieldsList-at c.filter_map-7.ensures.source (YieldsList-from_slice threads c.iter-7.ensures.rest))
    c.filter_map-7.ensures.closure (λ x r q k. search (rules, tests))))
    c.chain-6.ensures.first_done c.chain-6.ensures.second_done) in
    rw (
      ← c.as_slice-streams.ensures.value,
      ← c.as_slice-records.ensures.value,
      ← c.as_slice-exceptions.ensures.value,
      ← c.as_slice-threads.ensures.value,
    )
    ((rw c.in_ok-damage.was at made) ∙ joined (filter_map stream_damage streams) (ap (filter_map (λ (d : Option Damage). d)) c.in_ok-counted.ensures.counted)
    (ap (λ n. filter_map (λ e. exception_error (map_ok exception_of e)) (take n exceptions)) c.saturating_sub.ensures
    ∙ found_in_values (map_ok exception_of) exception_error before ∙ ap (filter_map exception_error) (values_before (map_ok exception_of) exceptions))
    (found_in_values (map_ok exception_stream.value) parameters_damage records)
    (found_in_values (map_ok exception_of) exception_damage exceptions) (found_in_values thread_value context_damage threads)
    (found_in_values thread_value stack_damage threads))
