-- Two sets are equal if each name is in both or in neither.
use Rattle.std.proofs.Common.{refl, Bor, List, ℕ}
use Rattle.std.specs.Cmp.{IsEquivalence}
use Rattle.std.specs.Str.{bytes_eq}
use Rattle.std.proofs.lemmas.Cmp.{nat_list_eq_equiv}
use Rattle.std.proofs.lemmas.Map.Lookups.{hash_set_eq_decides}
use Rattle.minidump_context.specs.declared.validity.MinidumpContextValidity.TheVariants.{All, Some as These}
use Rattle.minidump_context.proofs.laws.sets_are_equal_by_their_names.Goals as goal

same_names : IsEquivalence (λ (a b : Bor (List ℕ)). bytes_eq a.now b.now)
same_names = record {
  refl = λ x. nat_list_eq_equiv.refl x.now;
  symm = λ x y. nat_list_eq_equiv.symm x.now y.now;
  congr = λ x y z. nat_list_eq_equiv.congr x.now y.now z.now;
}

pub returns : goal.returns
returns c All All = (λ _. tt, λ _. refl)
returns c All (These t) = (λ e. cc, λ no. absurd no)
returns c (These s) All = (λ e. cc, λ no. absurd no)
returns c (These s) (These t) =
    let decides = hash_set_eq_decides same_names s t in
    (λ e name. decides.0 e (record { ref_ptr = (0, 0); now = name }), λ same. decides.1 (λ q. same q.now))
