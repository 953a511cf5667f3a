-- The names of codes, by family: the lists that a caller lends, and what is found in them.
use Rattle.std.specs.Prelude.{◌≡◌, ◌≢◌, ℕ, ◌<◌, ◌==◌, Bool, List, [], ◌∷◌, map, take}
use Rattle.std.specs.Prelude.{All, AllPairs, Any, Contains, slice_get, Option, Some, None}
use Rattle.std.specs.Prelude.{is_some, if◌then◌else◌}
use Rattle.std.specs.Borrow.{Bor}
use denote.Enum.Bare.{sameb}
use Rattle.minidump_reason.specs.contracts.family.CodeFamily.{the_type}
use Rattle.minidump_reason.specs.declared.family.CodeFamily.{CodeFamily}
use Rattle.minidump_reason.specs.declared.names.CodeNamesError.{CodeNamesError}
use Rattle.minidump_reason.specs.declared.names.CodeNamesError.TheVariants.{NotAscending, Repeated}

-- ---- the lists as they are lent

-- codes, each with its name
abbrev pub LentEntries : Type 0
LentEntries = List (ℕ × Bor (List ℕ))

-- families, each with its list
abbrev pub LentLists : Type 0
LentLists = List (CodeFamily × Bor LentEntries)

-- each code is below all later ones
abbrev pub IsAscending : LentEntries → Type 0
IsAscending = AllPairs (λ a b. a.0 < b.0)

-- valid lists: each ascends, and no two are of one family
pub record AreCodeNames (lists : LentLists) : Type 0 where
  pub ascending : All (λ list. IsAscending list.1.now) lists
  pub apart : AllPairs (λ a b. a.0 ≢ b.0) lists

-- one of the lists is of the family
abbrev pub HasFamily : LentLists → CodeFamily → Type 0
HasFamily lists family = Any (λ list. list.0 ≡ family) lists

-- the error of a list after others: `Repeated` if one of them is of its family, otherwise
-- `NotAscending` if its codes don't ascend
abbrev pub IsCodeListError : LentLists → CodeFamily → LentEntries → CodeNamesError → Type 0
IsCodeListError before family entries (Repeated f) = (f ≡ family) × HasFamily before family
IsCodeListError before family entries (NotAscending f) =
    (f ≡ family) × (¬ (HasFamily before family)) × (¬ (IsAscending entries))

-- the error of lists: that of the first one that has an error
pub record IsFirstListError (lists : LentLists) (e : CodeNamesError) : Type 0 where
  pub index : ℕ
  pub family : CodeFamily
  pub entries : Bor LentEntries
  pub there : slice_get lists index ≡ Some (family, entries)
  pub before : AreCodeNames (take index lists)
  pub error : IsCodeListError (take index lists) family entries.now e

-- ---- the lists as values

-- codes, each with its name
abbrev pub Entries : Type 0
Entries = List (ℕ × List ℕ)

-- families, each with its list
abbrev pub Lists : Type 0
Lists = List (CodeFamily × Entries)

-- the value of one list
abbrev pub entries_of : LentEntries → Entries
entries_of = map (λ e. (e.0, e.1.now))

-- the value of all lists
abbrev pub lists_of : LentLists → Lists
lists_of = map (λ l. (l.0, entries_of l.1.now))

-- two families are the same
abbrev pub is_family : CodeFamily → CodeFamily → Bool
is_family = sameb the_type

-- the list of a family, which is empty if there is none
abbrev pub list_of : Lists → CodeFamily → Entries
list_of [] family = []
list_of ((f, entries) ∷ rest) family = if is_family f family then entries else list_of rest family

-- the name beside a code
abbrev pub name_in : Entries → ℕ → Option (List ℕ)
name_in [] code = None
name_in ((c, name) ∷ rest) code = if c == code then Some name else name_in rest code

-- the name that the list of a family has for a code
unfoldable pub name_of : Lists → CodeFamily → ℕ → Option (List ℕ)
name_of lists family code = name_in (list_of lists family) code

-- the list of the family has the code
abbrev pub is_in : Lists → CodeFamily → ℕ → Bool
is_in lists family code = is_some (name_of lists family code)

-- the list of the family holds the code with this name
abbrev pub HasName : Lists → CodeFamily → ℕ → List ℕ → Type 0
HasName lists family code name =
    (entries : Entries) × Contains lists (family, entries) × Contains entries (code, name)
