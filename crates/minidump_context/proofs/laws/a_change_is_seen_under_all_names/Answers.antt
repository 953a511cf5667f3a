-- The value at the index of a change.
use Rattle.std.proofs.Common.{◌<◌, length}
use Rattle.std.proofs.lemmas.Option.{slice_get_within}
use Rattle.std.proofs.lemmas.List.{length-map}
use Rattle.minidump_context.specs.Register.{names_of}
use Rattle.minidump_context.proofs.LawLemmas.{get-set_same, name_at_index}
use Rattle.minidump_context.proofs.laws.a_change_is_seen_under_all_names.Goals as goal

pub returns : goal.returns
returns g c = λ before after value index name changed named.
    let listed : index < length (names_of g.T.CpuRegisterNames.table) = slice_get_within _ index _ (name_at_index _ _ name index named) in
    let within : index < length (g.T.CpuContext.values before) = rw (g.met.T.CpuContext.as_many before) (simp length-map at listed) in
    rw (named, changed.0) (get-set_same _ index value within)
