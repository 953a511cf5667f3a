-- The names of the types, ascending, each with its number.
use Rattle.std.proofs.Common.{◌≡◌, ◌∙◌, map-id, sym, ℕ, List, refl, count_by, nat_cmp}
use Rattle.std.specs.Cmp.Lexicographic.{slice_cmp}
use Rattle.std.proofs.lemmas.Cmp.{nat_list_cmp_total}
use Rattle.std.proofs.lemmas.List.Elements.{All-map}
use Rattle.std.proofs.lemmas.Map.Lookups.{exact_bytes}
use Rattle.crash_process.specs.Ascending.{ascending}
use Rattle.crash_process.specs.HandleKinds.{KindValue, has_type, kind_by, type_names}
use Rattle.crash_process.proofs.Ascending.{one_ascends, one_table, keys_are}
use Rattle.crash_process.proofs.laws.handles_are_counted_by_type.Goals as goal

pub returns : goal.returns
returns c = λ handles kinds.
    let number : List ℕ → ℕ = λ name. count_by (has_type name) handles in
    let names = ascending (slice_cmp nat_cmp) (type_names handles) in
    let kind : List ℕ → KindValue = λ name. kind_by name (number name) in (
      λ h. sym (map-id kinds)
          ∙ one_table (slice_cmp nat_cmp) nat_list_cmp_total exact_bytes kind_by (λ k. k.type_name) (λ k. k.count) number (type_names handles) kinds h.names h.numbers,
      λ is. rw is (record {
        names = (one_ascends (slice_cmp nat_cmp) nat_list_cmp_total exact_bytes (type_names handles) _).1 (keys_are kind (λ k. k.type_name) (λ k. refl) names);
        numbers = All-map (λ k. k.count ≡ number k.type_name) kind names (λ k d h. refl);
      }),
    )
