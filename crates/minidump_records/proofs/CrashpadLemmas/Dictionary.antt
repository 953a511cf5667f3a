-- A list is the dictionary of pairs exactly if it meets `IsDictionaryOf`.
use Rattle.std.proofs.Common.{◌≡◌, ◌↔◌, ℕ, List, sym, subst}
use Rattle.minidump_system.specs.LastValues.{IsDictionaryOf, dictionary_of}
use Rattle.minidump_system.proofs.OneDictionary.{dictionary_is_one, is_dictionary}

pub the_dictionary : {V : Type 0} (pairs es : List (List ℕ × V)) → IsDictionaryOf pairs es ↔ (es ≡ dictionary_of pairs)
the_dictionary {V} pairs es =
    let the = is_dictionary pairs in (
      λ d. dictionary_is_one pairs es (dictionary_of pairs) d the,
      λ is. let P : List (List ℕ × V) → Type 0 = IsDictionaryOf pairs in subst P (sym is) the,
    )
