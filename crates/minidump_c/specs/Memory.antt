-- The region of memory at an address, and the table of all regions.
use Rattle.std.specs.Prelude.{◌≡◌, ℕ, ◌-◌, List, [], drop, map, Option, Some, None, IsOkAnd}
use Rattle.std.specs.Option.{option_and_then}
use Rattle.minidump.specs.Dump.{dump_in}
use Rattle.minidump.specs.Below.Index.Lookup.{IsByAddress, looked_up}
use Rattle.minidump.specs.Below.MemoryLists.Memory.{range_of_region}
use Rattle.minidump.specs.Below.MemoryLists.Unified.{UnifiedRegion, UnifiedRegions, unified_regions}
use Rattle.minidump.specs.Memory.{memories_of_dump}
use Rattle.minidump_c.specs.declared.memory.Region.{Region}

-- the kept region that has an address: none of a dump without memory
abbrev pub memory_at : Option UnifiedRegions → ℕ → Option UnifiedRegion
memory_at memory address =
    option_and_then (λ m. looked_up range_of_region (unified_regions m) address) memory

-- a region's base address and its size, which is never 0; and zeros for none
abbrev pub row_of : Option UnifiedRegion → Region
row_of (Some region) = record { base = region.base_address; size = region.size }
row_of None = record { base = 0; size = 0 }

-- the kept region that has the address
abbrev pub IsRegionAt : List ℕ → ℕ → Region → Type 0
IsRegionAt bytes address region = IsOkAnd (dump_in bytes)
    (λ dump. region ≡ row_of (memory_at (memories_of_dump dump) address))

-- the bytes of a region from an address on
abbrev pub bytes_from : Option UnifiedRegion → ℕ → List ℕ
bytes_from (Some region) address = drop (address - region.base_address) region.bytes
bytes_from None address = []

-- the bytes of the kept region that has the address, from there on
abbrev pub IsReadAt : List ℕ → ℕ → List ℕ → Type 0
IsReadAt bytes address read = IsOkAnd (dump_in bytes)
    (λ dump. read ≡ bytes_from (memory_at (memories_of_dump dump) address) address)

-- the kept regions, ascending by address, as rows
abbrev pub IsTableOfRegions : List UnifiedRegion → List Region → Type 0
IsTableOfRegions regions rows =
    (given : List UnifiedRegion) × IsByAddress range_of_region regions given
    × (rows ≡ map (λ r. row_of (Some r)) given)

-- no rows of a dump without memory
abbrev pub IsTableIn : Option UnifiedRegions → List Region → Type 0
IsTableIn (Some memory) rows = IsTableOfRegions (unified_regions memory) rows
IsTableIn None rows = rows ≡ []

-- the table of the regions of memory of a dump
abbrev pub IsTableOf : List ℕ → List Region → Type 0
IsTableOf bytes rows = IsOkAnd (dump_in bytes) (λ dump. IsTableIn (memories_of_dump dump) rows)
