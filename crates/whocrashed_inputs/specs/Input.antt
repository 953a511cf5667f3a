-- What is read of files and of standard input, and which dumps are read.
use Rattle.std.specs.Prelude.{ℕ, ◌==◌, Bool, List, bytes_eq, codes, filter, length, map, nat_lt}
use Rattle.std.specs.Prelude.{if◌then◌else◌, Option, Some, None}
use Rattle.std.specs.List.{list_any, slice_split}
use Rattle.std.specs.Str.{is_utf8}
use Rattle.whocrashed_inputs.specs.declared.input.Dump.{Dump}
use Rattle.whocrashed_inputs.specs.declared.input.Dump.TheVariants as dump

-- all bytes, or none where there are more than the limit
abbrev pub within : ℕ → List ℕ → Option (List ℕ)
within limit bytes = if nat_lt limit (length bytes) then None else Some bytes

-- a dump that is asked for: the one on standard input, that in the file of a path, or one whose
-- path isn't UTF-8
pub data Asked : Type 0 where
  Input : Asked
  File : (path : List ℕ) → Asked
  Malformed : (path : List ℕ) → Asked

-- the dump on standard input, and that in the file of a path
abbrev pub on_input : Asked
on_input = Input

abbrev pub in_file : List ℕ → Asked
in_file path = File path

-- the dump that a `Dump` asks for
abbrev pub asked_of : Dump → Asked
asked_of dump.Input = Input
asked_of (dump.File path) = File path.now
asked_of (dump.Malformed path) = Malformed path.now

-- what an argument asks for: `-` is standard input
abbrev pub by_argument : List ℕ → Asked
by_argument path = if bytes_eq path (codes "-") then Input else File path

-- what a path in a list asks for
abbrev pub by_list : List ℕ → Asked
by_list path = if is_utf8 path then File path else Malformed path

-- what stands between the paths of a list: NULs if it has one, and else line feeds
abbrev pub separator_of : List ℕ → ℕ
separator_of list = if list_any (λ b. b == 0) list then 0 else 10

-- a part of a list is a path: it isn't empty
abbrev pub is_path : List ℕ → Bool
is_path part = nat_lt 0 (length part)

-- the paths of a list
abbrev pub paths_in : List ℕ → List (List ℕ)
paths_in list = filter is_path (slice_split (λ b. b == separator_of list) list)

-- the dumps that a list asks for
abbrev pub asked_in : List ℕ → List Asked
asked_in list = map by_list (paths_in list)
