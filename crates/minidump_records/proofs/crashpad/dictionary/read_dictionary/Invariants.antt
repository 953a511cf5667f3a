-- The map is the dictionary of the pairs so far.
use Rattle.std.proofs.Common.{◌+◌, ◌≤◌, map}
use Rattle.std.specs.List.{sum_by}
use Rattle.minidump_records.specs.Crashpad.Dictionary.{entries_of, pair_of}
use Rattle.minidump_system.specs.LastValues.{IsDictionaryOf}
use Rattle.minidump_records.proofs.crashpad.dictionary.read_dictionary.Given as goal

abbrev pub invariant-loop-pair : goal.invariant-loop-pair
invariant-loop-pair g l = record {
  dictionary : IsDictionaryOf (map (pair_of g.V.DictionaryValue.value) l.yielded) (entries_of g.V.DictionaryValue.value l.dictionary.entries);
  least : sum_by (λ e. 1 + (1 + g.V.DictionaryValue.fewest e.1)) (entries_of g.V.DictionaryValue.value l.dictionary.entries)
      ≤ sum_by (λ e. 1 + (1 + g.V.DictionaryValue.fewest e.1)) (map (pair_of g.V.DictionaryValue.value) l.yielded);
}
