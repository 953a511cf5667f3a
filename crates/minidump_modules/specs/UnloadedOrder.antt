-- Unloaded modules by address. They may overlap: each that has a range is kept.
use Rattle.std.specs.Prelude.{◌≡◌, ◌↔◌, ℕ, ◌<◌, ◌≤◌, ◌⊎◌, ◌&&◌, Bool, List, map, filter, length, Option, Some, All}
use Rattle.std.specs.Prelude.{AllPairs, Contains, slice_get, nat_le}
use Rattle.std.specs.List.{filter_map}
use Rattle.minidump_index.specs.declared.range.Range.{Range}
use Rattle.minidump_index.specs.Lookup.{HasAddress}
use Rattle.minidump_index.specs.Overlap.{HasRange, IsBefore}
use Rattle.minidump_modules.specs.declared.unloaded_order.IndexedRange.{IndexedRange}
use Rattle.minidump_modules.specs.UnloadedModule.{UnloadedValue, range_of_unloaded}

-- each range of a list with its index, once: each stands before each later one
pub record IsListedBy (StandsBefore : IndexedRange → IndexedRange → Type 0)
    (ranges : List (Option Range)) (order : List IndexedRange) : Type 0 where
  pub members : (e : IndexedRange) → Contains order e ↔ HasRange ranges e.index e.range
  pub ascending : AllPairs StandsBefore order

-- by start, then by end, then by index
abbrev pub Precedes : IndexedRange → IndexedRange → Type 0
Precedes e f = IsBefore e.range e.index f.range f.index

-- all ranges of a list, in order
abbrev pub IsOrderOf : List (Option Range) → List IndexedRange → Type 0
IsOrderOf = IsListedBy Precedes

-- the same by index alone
abbrev pub IsByIndex : List (Option Range) → List IndexedRange → Type 0
IsByIndex = IsListedBy (λ e f. e.index < f.index)

-- each stands before each later one, or is the same
abbrev pub IsInOrder : List IndexedRange → Type 0
IsInOrder order = AllPairs (λ e f. Precedes e f ⊎ (e ≡ f)) order

-- each index is one of the list's
abbrev pub IsInside : {M : Type 0} → List M → List IndexedRange → Type 0
IsInside modules order = All (λ e. e.index < length modules) order

-- the modules at indices
abbrev pub modules_of_order : {M : Type 0} → List M → List IndexedRange → List M
modules_of_order modules order = filter_map (slice_get modules) (map (λ e. e.index) order)

-- a range contains an address
abbrev pub has : ℕ → IndexedRange → Bool
has address e = nat_le e.range.start address && nat_le address e.range.end

-- the modules that have a range, by start, then by end, then by index
abbrev pub IsByStart : List UnloadedValue → List UnloadedValue → Type 0
IsByStart modules given =
    (order : List IndexedRange) × IsOrderOf (map range_of_unloaded modules) order
    × (given ≡ modules_of_order modules order)

-- those of them that contain an address
abbrev pub AreAt : List UnloadedValue → ℕ → List UnloadedValue → Type 0
AreAt modules address given =
    (order : List IndexedRange) × IsOrderOf (map range_of_unloaded modules) order
    × (given ≡ modules_of_order modules (filter (has address) order))

-- a module starts before another; or at the same address, and ends no later
abbrev pub StartsBefore : UnloadedValue → UnloadedValue → Type 0
StartsBefore m n =
    (r s : Range) × (range_of_unloaded m ≡ Some r) × (range_of_unloaded n ≡ Some s)
    × ((r.start < s.start) ⊎ ((r.start ≡ s.start) × (r.end ≤ s.end)))

-- what holds of each list of unloaded modules
pub record HasUnloadedLaws (modules : List UnloadedValue) : Type 0 where
  -- there is one order by start
  pub one_order : (given other : List UnloadedValue) → IsByStart modules given
      → IsByStart modules other → given ≡ other
  -- in it are the modules that have a range, and no others
  pub with_ranges : (given : List UnloadedValue) (m : UnloadedValue) → IsByStart modules given
      → Contains given m ↔ (Contains modules m × ((r : Range) × (range_of_unloaded m ≡ Some r)))
  -- they ascend
  pub ascending : (given : List UnloadedValue) → IsByStart modules given
      → AllPairs StartsBefore given
  -- an address has one answer
  pub one_answer : (address : ℕ) (given other : List UnloadedValue) → AreAt modules address given
      → AreAt modules address other → given ≡ other
  -- in it are the modules that contain the address, and no others
  pub found : (address : ℕ) (given : List UnloadedValue) (m : UnloadedValue)
      → AreAt modules address given
      → Contains given m ↔ (Contains modules m × HasAddress range_of_unloaded address m)
  -- they ascend
  pub found_ascend : (address : ℕ) (given : List UnloadedValue) → AreAt modules address given
      → AllPairs StartsBefore given
