-- The kinds of the handles of a process, by the names of their types.
use Rattle.std.specs.Prelude.{◌≡◌, ℕ, All, Bool, false, List, [], bytes_eq, count_by, map, Result, Ok, Err}
use Rattle.std.specs.Prelude.{string_bytes}
use Rattle.std.specs.Cmp.Lexicographic.{slice_cmp}
use Rattle.std.specs.List.{filter_map}
use Rattle.std.specs.Option.{option_map_or}
use Rattle.std.specs.Ordering.{nat_cmp}
use Rattle.minidump.specs.declared.Error.{Error}
use Rattle.minidump.specs.Below.Records.Handles.{Handle}
use Rattle.crash_process.specs.Ascending.{IsAscending, ascending}
use Rattle.crash_process.specs.declared.handle_kinds.HandleKind.{HandleKind}

-- a kind: the name of a type, and how many handles have it
pub record KindValue : Type 0 where
  pub type_name : List ℕ
  pub count : ℕ

-- the same of a `HandleKind`
abbrev pub kind_of : HandleKind → KindValue
kind_of k = record { type_name = string_bytes k.type_name; count = k.count }

-- the type of a handle has a name
abbrev pub has_type : List ℕ → Handle → Bool
has_type name h = option_map_or (bytes_eq name) h.type_name false

-- the name of the type of each handle that has one
abbrev pub type_names : List Handle → List (List ℕ)
type_names handles = filter_map (λ h. h.type_name) handles

-- the kind of a name and its number
abbrev pub kind_by : List ℕ → ℕ → KindValue
kind_by name count = record { type_name = name; count = count }

-- the kinds of handles: each of these names once, ascending by its bytes, with the number of handles
-- that have it
abbrev pub tally : List Handle → List KindValue
tally handles = map (λ name. kind_by name (count_by (has_type name) handles))
    (ascending (slice_cmp nat_cmp) (type_names handles))

-- kinds are those of handles: they have the names of the handles' types and no others, each once,
-- ascending, with the number of handles that have it
pub record IsTally (handles : List Handle) (kinds : List KindValue) : Type 0 where
  pub names : IsAscending (slice_cmp nat_cmp) (type_names handles) (map (λ k. k.type_name) kinds)
  pub numbers : All (λ k. k.count ≡ count_by (has_type k.type_name) handles) kinds

-- the kinds of handles: none where their stream can't be read
abbrev pub kinds_in : Result (List Handle) Error → List KindValue
kinds_in (Ok handles) = tally handles
kinds_in (Err e) = []
