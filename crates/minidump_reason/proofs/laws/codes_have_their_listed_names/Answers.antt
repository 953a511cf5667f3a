-- A name is found in the borrowed lists, whose value the names are.
use Rattle.minidump_reason.proofs.HasNameLemmas.{has_name_from_name_of, name_of_from_has_name}
use Rattle.minidump_reason.proofs.laws.codes_have_their_listed_names.Goals as goal

pub returns : goal.returns
returns c family number name = (
  has_name_from_name_of _ family number name,
  λ named. rw c.lists-lists.ensures.same (name_of_from_has_name _ c.lists-lists.ensures.names family number name (rw c.lists-lists.ensures.same at named)),
)
