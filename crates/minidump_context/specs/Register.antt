-- Registers by name. A processor has a table of canonical names, each with its offset in the
-- record, and aliases of some of them. A context has the list of its registers' values, in the
-- order of the table.
use Rattle.std.specs.Prelude.{⊤, ◌≡◌, ℕ, ◌*◌, Bool, true, false, ◌||◌, ◌&&◌, List, [], ◌∷◌, ◌++◌, codes, drop}
use Rattle.std.specs.Prelude.{map, length, Option, Some, None}
use Rattle.std.specs.Prelude.{IsSome, is_some, if◌then◌else◌, position}
use Rattle.std.specs.HashSet.{contains_by}
use Rattle.std.specs.List.{slice_get, slice_set, list_all, list_any, filter, range_with_len, zip}
use Rattle.std.specs.Option.{option_map_or, option_and_then, option_copied}
use Rattle.std.specs.Str.{bytes_eq}
use Rattle.minidump_bytes.specs.Piece.{wide_hex}
use Rattle.minidump_context.specs.declared.cpu_registers.CpuRegisters.{CpuRegisters}
use Rattle.minidump_context.specs.declared.validity.MinidumpContextValidity.{MinidumpContextValidity}
use Rattle.minidump_context.specs.declared.validity.MinidumpContextValidity.TheVariants.{All, Some as These}

-- the canonical names of a table
abbrev pub names_of : List (List ℕ × ℕ) → List (List ℕ)
names_of table = map (λ row. row.0) table

-- the canonical name that a name is an alias of, or the name itself if it is none
unfoldable pub canonical_name : List (List ℕ × List ℕ) → List ℕ → List ℕ
canonical_name [] name = name
canonical_name (alias ∷ rest) name =
    if bytes_eq alias.0 name then alias.1 else canonical_name rest name

-- the index in the table of the register that has a name
unfoldable pub register_index : List (List ℕ) → List (List ℕ × List ℕ) → List ℕ → Option ℕ
register_index names aliases name = position (λ n. bytes_eq n (canonical_name aliases name)) names

-- each name of a table stands for the register of its own row, each alias for that of its canonical
-- name, and both pointers are registers
pub record AreRegisterNames
    (table : List (List ℕ × ℕ))
    (aliases : List (List ℕ × List ℕ))
    (stack_pointer instruction_pointer : List ℕ)
    : Type 0 where
  pub canonical : map (register_index (names_of table) aliases) (names_of table)
      ≡ map Some (range_with_len 0 (length table))
  pub alias : map (λ a. register_index (names_of table) aliases a.0) aliases
      ≡ map (λ a. position (λ n. bytes_eq n a.1) (names_of table)) aliases
  pub aliases_known : list_all (λ a. is_some (register_index (names_of table) aliases a.0)) aliases
      ≡ true
  pub stack_pointer_known : IsSome (register_index (names_of table) aliases stack_pointer)
  pub instruction_pointer_known : IsSome
      (register_index (names_of table) aliases instruction_pointer)

-- the canonical name of the register that has a name
abbrev pub register_name : List (List ℕ) → List (List ℕ × List ℕ) → List ℕ → Option (List ℕ)
register_name names aliases name =
    option_and_then (slice_get names) (register_index names aliases name)

-- its value, out of the values of all
abbrev pub value_of : {V : Type 0} → List (List ℕ) → List (List ℕ × List ℕ) → List V → List ℕ
    → Option V
value_of names aliases values name =
    option_and_then (slice_get values) (register_index names aliases name)

-- whether a set of valid registers has a name
abbrev pub holds : MinidumpContextValidity → List ℕ → Bool
holds All name = true
holds (These set) name = contains_by (λ k. bytes_eq name k.now) set

-- whether it has a canonical name or an alias of it
unfoldable pub holds_any : MinidumpContextValidity → List (List ℕ × List ℕ) → List ℕ → Bool
holds_any valid aliases canonical =
    holds valid canonical || list_any (λ a. bytes_eq a.1 canonical && holds valid a.0) aliases

-- whether a name is one of a valid register; a name that is no register's is not
abbrev pub is_valid : MinidumpContextValidity → List (List ℕ) → List (List ℕ × List ℕ) → List ℕ
    → Bool
is_valid valid names aliases name =
    option_map_or (holds_any valid aliases) (register_name names aliases name) false

-- the names and values of the valid registers at an index of the table or after it, by their
-- canonical names
unfoldable pub valid_from : {V : Type 0} → MinidumpContextValidity → List (List ℕ)
    → List (List ℕ × List ℕ) → List V → ℕ → List (List ℕ × V)
valid_from valid names aliases values index =
    filter (λ r. is_valid valid names aliases r.0) (drop index (zip names values))

-- only the register at an index of the table is changed; without an index nothing is
abbrev pub IsChanged : {C V : Type 0} → (C → List V) → (C → C) → C → C → V → Option ℕ → Type 0
IsChanged values rest before after value None = after ≡ before
IsChanged values rest before after value (Some index) =
    (values after ≡ slice_set (values before) index value) × (rest after ≡ rest before)

-- the set that is given, or all if none is
abbrev pub all_or : Option MinidumpContextValidity → MinidumpContextValidity
all_or None = All
all_or (Some valid) = valid

-- what an iterator over registers has left
abbrev pub registers_left : {C V : Type 0} → List (List ℕ) → List (List ℕ × List ℕ) → (C → List V)
    → CpuRegisters C → List (List ℕ × V)
registers_left names aliases values s =
    valid_from (all_or (option_copied s.valid)) names aliases (values s.context.now) s.index

-- the names of a set of valid registers, unless it is all
abbrev pub set_names : MinidumpContextValidity → Option (List (List ℕ))
set_names All = None
set_names (These set) = Some (map (λ k. k.now) set.keys)

-- two sets of valid registers have the same names, in some order
abbrev pub IsSameValidity : MinidumpContextValidity → MinidumpContextValidity → Type 0
IsSameValidity All All = ⊤
IsSameValidity (These s) (These t) =
    (name : List ℕ) → contains_by (λ k. bytes_eq name k.now) s
    ≡ contains_by (λ k. bytes_eq name k.now) t
IsSameValidity a b = ⊥

-- the text of a register of `size` bytes: `0x` and two hexadecimal digits for each byte
abbrev pub register_text : ℕ → ℕ → List ℕ
register_text size n = codes "0x" ++ wide_hex (2 * size) n
