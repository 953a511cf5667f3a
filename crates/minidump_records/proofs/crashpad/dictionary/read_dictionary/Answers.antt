-- One pair more is put into the map.
use Rattle.std.proofs.Common.{◌+◌, ◌∙◌, Ok, refl, ap, sym, arith, map, string_bytes}
use Rattle.std.specs.String.{string_cmp}
use Rattle.std.proofs.lemmas.List.{map-id, map_push}
use Rattle.std.proofs.lemmas.Iterator.Adapters.{YieldsList-from_vec}
use Rattle.std.proofs.lemmas.Iterator.Consumers.{YieldsList-end}
use Rattle.minidump_records.specs.Crashpad.Dictionary.{dictionary, pair_of}
use Rattle.minidump_system.proofs.OneDictionary.{dictionary_none}
use Rattle.minidump_records.proofs.CrashpadLemmas.Dictionary.{the_dictionary}
use Rattle.minidump_format.proofs.AnswerLemmas.{gives_exit}
use Rattle.minidump_records.proofs.CrashpadLemmas.Put.{put_dictionary, put_weighs}
use Rattle.minidump_records.proofs.crashpad.dictionary.read_dictionary.Goals as goal

pub returns-in_err-pairs-clause-means : goal.returns-in_err-pairs-clause-means
unfolding dictionary
returns-in_err-pairs-clause-means g c = gives_exit _ _ _ _ _ c.from_residual.ensures.1 (λ h. h) c.in_err-pairs.ensures.means (λ h. rw h refl)

pub loop-pair-init : goal.loop-pair-init
loop-pair-init g c = rw c.new-dictionary.ensures.empty (record { dictionary = dictionary_none; least = omega arith })

pub loop-pair-preserved-in_ok-insert : goal.loop-pair-preserved-in_ok-insert
loop-pair-preserved-in_ok-insert g c =
    rw (c.in_ok-insert.ensures.entries, map_push) (record {
      dictionary =
          put_dictionary string_cmp string_bytes g.V.DictionaryValue.value (λ j k. refl) _
          (map (pair_of g.V.DictionaryValue.value) c.loop-pair.yielded) _ _ c.loop-pair.invariant.dictionary;
      least =
          put_weighs string_cmp string_bytes g.V.DictionaryValue.value (λ j k. refl) (λ v. 1 + (1 + g.V.DictionaryValue.fewest v)) _
          (map (pair_of g.V.DictionaryValue.value) c.loop-pair.yielded) _ _ c.loop-pair.invariant.least;
    })

pub loop-pair-preserved : goal.loop-pair-preserved
loop-pair-preserved g c =
    rw (c.in_ok-insert.ensures.entries, map_push) (record {
      dictionary =
          put_dictionary string_cmp string_bytes g.V.DictionaryValue.value (λ j k. refl) _
          (map (pair_of g.V.DictionaryValue.value) c.loop-pair.yielded) _ _ c.loop-pair.invariant.dictionary;
      least =
          put_weighs string_cmp string_bytes g.V.DictionaryValue.value (λ j k. refl) (λ v. 1 + (1 + g.V.DictionaryValue.fewest v)) _
          (map (pair_of g.V.DictionaryValue.value) c.loop-pair.yielded) _ _ c.loop-pair.invariant.least;
    })

pub returns-clause-means : goal.returns-clause-means
unfolding dictionary
returns-clause-means g c =
    let pairs = c.in_ok-pairs.pairs in
    let road = YieldsList-from_vec {s = c.into_iter-pair-iterator.result} pairs.items c.into_iter-pair-iterator.ensures.into_iter_gives.0
    (c.into_iter-pair-iterator.ensures.into_iter_gives.1 ∙ pairs.ok.0) in
    let t = YieldsList-end road c.loop-pair.yielded c.loop-pair.pair-iterator c.loop-pair.yielded_by c.next.result c.next.new.self c.in-None.is
    c.next.ensures.steps in
    let whole = rw map-id at t.0 in
    rw c.in_ok-pairs.ensures.means (ap Ok (sym ((the_dictionary _ _).0 (rw whole at c.loop-pair.invariant.dictionary))))

pub returns-clause-at_least : goal.returns-clause-at_least
returns-clause-at_least g c =
    let pairs = c.in_ok-pairs.pairs in
    let road = YieldsList-from_vec {s = c.into_iter-pair-iterator.result} pairs.items c.into_iter-pair-iterator.ensures.into_iter_gives.0
    (c.into_iter-pair-iterator.ensures.into_iter_gives.1 ∙ pairs.ok.0) in
    let t = YieldsList-end road c.loop-pair.yielded c.loop-pair.pair-iterator c.loop-pair.yielded_by c.next.result c.next.new.self c.in-None.is
    c.next.ensures.steps in
    let whole = rw map-id at t.0 in
    omega (arith, rw whole at c.loop-pair.invariant.least, c.in_ok-pairs.ensures.at_least)
