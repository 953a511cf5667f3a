-- A text of names: lines, each of which lists a code with its name, or nothing. The codes of a
-- family ascend.
use Rattle.std.specs.Prelude.{◌≡◌, ◌+◌, ◌++◌, ◌<◌, ◌≤◌, ℕ, List, [], ◌∷◌, All, AllPairs, Any, IsSome, Some, None}
use Rattle.std.specs.Prelude.{filter, map, slice_get, take, unwrap_or}
use Rattle.std.specs.List.{flat_map}
use Rattle.minidump_bytes.specs.LinuxOsStr.{split_parts}
use Rattle.minidump_reason.specs.declared.family.CodeFamily.{CodeFamily}
use Rattle.minidump_reason.specs.Names.{Entries, Lists, is_family}
use Rattle.minidump_names.specs.NameLine.{Listing, families, line_in}
use Rattle.minidump_names.specs.declared.error.NamesError.{NamesError}
use Rattle.minidump_names.specs.declared.error.NamesError.TheVariants.{NotALine, OutOfOrder, OutOfMemory}

-- ---- the lines

-- the lines: the parts between line feeds
abbrev pub lines_in : List ℕ → List (List ℕ)
lines_in text = split_parts 10 text

-- the codes that lines list, in order
abbrev pub listings_in : List (List ℕ) → List Listing
listings_in lines = flat_map (λ line. unwrap_or (line_in line) []) lines

-- of two codes of a family, the later one is the higher one
abbrev pub InOrder : List Listing → Type 0
InOrder = AllPairs (λ a b. a.family ≡ b.family → a.number < b.number)

-- these are lines of names
pub record AreLines (lines : List (List ℕ)) : Type 0 where
  pub each : All (λ line. IsSome (line_in line)) lines
  pub ascending : InOrder (listings_in lines)

-- the codes of one more line are added to those before, and all of them are in order
abbrev pub AddsLine : List Listing → List ℕ → List Listing → Type 0
AddsLine before line after =
    (more : List Listing) × (line_in line ≡ Some more) × (after ≡ before ++ more) × InOrder after

-- ---- the names of a text

-- a code with its name
abbrev pub entry_of : Listing → ℕ × List ℕ
entry_of l = (l.number, l.name)

-- the codes of a family, in order, each with its name
abbrev pub entries_of_family : List Listing → CodeFamily → Entries
entries_of_family listings family = map entry_of (filter (λ l. is_family l.family family) listings)

-- a list for each family, also where it is empty
abbrev pub lists_in : List Listing → Lists
lists_in listings = map (λ family. (family, entries_of_family listings family)) families

-- the names of a text
abbrev pub IsNames : List ℕ → Lists → Type 0
IsNames text names = AreLines (lines_in text) × (names ≡ lists_in (listings_in (lines_in text)))

-- ---- the error of a text

-- a code is above all earlier ones of its family
abbrev pub IsAbove : List Listing → Listing → Type 0
IsAbove before l = All (λ e. e.family ≡ l.family → e.number < l.number) before

-- an earlier code of the family is this one or a higher one
abbrev pub IsNotAbove : List Listing → Listing → Type 0
IsNotAbove before l = Any (λ e. (e.family ≡ l.family) × (l.number ≤ e.number)) before

-- the error of a line after others, with its number: it is not a line of names, or an earlier code
-- of its family isn't below its own
abbrev pub IsLineError : List Listing → List ℕ → ℕ → NamesError → Type 0
IsLineError before line number (NotALine n) = (n ≡ number) × (line_in line ≡ None)
IsLineError before line number (OutOfOrder n) =
    (n ≡ number) × (l : Listing) × (line_in line ≡ Some (l ∷ [])) × IsNotAbove before l
IsLineError before line number OutOfMemory = Unit {0}

-- the error of the first line that has one; the number of the first line is 1
pub record IsFirstLineError (lines : List (List ℕ)) (e : NamesError) : Type 0 where
  pub index : ℕ
  pub line : List ℕ
  pub there : slice_get lines index ≡ Some line
  pub before : AreLines (take index lines)
  pub error : IsLineError (listings_in (take index lines)) line (index + 1) e

-- the error of a text: that of its first line that has one, or out of memory
abbrev pub IsNamesTextError : List ℕ → NamesError → Type 0
IsNamesTextError text OutOfMemory = Unit {0}
IsNamesTextError text e = IsFirstLineError (lines_in text) e
