-- The deciding entries as they are kept, and what reading a directory returns.
use Rattle.std.specs.Prelude.{◌≡◌, ℕ, ◌^◌, ◌<◌, ◌≤◌, List, [], ◌∷◌, Bool, map, find, reverse, ◌==◌, not, None}
use Rattle.std.specs.Prelude.{Result, Ok, Err, true, false}
use Rattle.std.specs.List.Sorted.{IsStrictlySortedBy}
use Rattle.std.specs.Ordering.{nat_cmp}
use Rattle.minidump_format.specs.declared.error.Error.{Error}
use Rattle.minidump_format.specs.declared.error.Error.TheVariants.{MissingDirectory, OutOfMemory}
use Rattle.minidump_format.specs.declared.format.header.MINIDUMP_HEADER.{MINIDUMP_HEADER}
use Rattle.minidump.specs.declared.directory.DecidingEntry.{DecidingEntry}
use Rattle.minidump_format.specs.declared.format.header.MINIDUMP_DIRECTORY.{MINIDUMP_DIRECTORY}
use Rattle.minidump.specs.Directory.{deciding_entry, is_readable}
use Rattle.minidump.specs.Dump.{bytes_of_entry}

-- the type of an entry
abbrev pub type_of : DecidingEntry → ℕ
type_of d = d.entry.stream_type

-- the entry has a type
abbrev pub is_of_type : ℕ → DecidingEntry → Bool
is_of_type t d = type_of d == t

-- the bytes of the stream of a type in a file whose deciding entries these are, or the error
abbrev pub bytes_of_type : ℕ → List DecidingEntry → List ℕ → Result (List ℕ) Error
bytes_of_type t ds file = bytes_of_entry file (find (is_of_type t) ds)

-- the first entry is followed by none, or by one of another type
abbrev pub ends_a_type : List DecidingEntry → Bool
ends_a_type [] = true
ends_a_type (d ∷ []) = true
ends_a_type (d ∷ e ∷ ds) = not (type_of e == type_of d)

-- of all entries the last of each type, ascending by type
pub record AreLast (all last : List DecidingEntry) : Type 0 where
  pub ascending : IsStrictlySortedBy nat_cmp (map type_of last)
  pub at : (t : ℕ) → find (is_of_type t) last ≡ find (is_of_type t) (reverse all)

-- the deciding entries of a directory, ascending by type; no type is 2^32 or more
pub record Decides (ds : List DecidingEntry) (es : List MINIDUMP_DIRECTORY) : Type 0 where
  pub ascending : IsStrictlySortedBy nat_cmp (map type_of ds)
  pub at : (t : ℕ) → find (is_of_type t) ds ≡ deciding_entry t es
  pub small : (t : ℕ) → 2 ^ 32 ≤ t → deciding_entry t es ≡ None

-- `Ok`: every entry is in the file, and the value is as said. Memory may run out only where every
-- entry is in the file, and there is one
abbrev pub Reads : {X : Type 0} → (X → Type 0) → List ℕ → MINIDUMP_HEADER → Result X Error → Type 0
Reads Is bytes h (Ok x) = (is_readable bytes h ≡ true) × Is x
Reads Is bytes h (Err MissingDirectory) = is_readable bytes h ≡ false
Reads Is bytes h (Err OutOfMemory) = (is_readable bytes h ≡ true) × (0 < h.stream_count)
Reads Is bytes h (Err _) = ⊥
