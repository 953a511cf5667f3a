-- The region of a minidump's memory in which an address lies: of overlapping regions one is kept,
-- and the kept ones answer.
use Rattle.std.specs.Prelude.{◌≡◌, ℕ, List, Option, IsOkAnd}
use Rattle.std.specs.Option.{option_and_then, option_map}
use Rattle.minidump.specs.Dump.{dump_in}
use Rattle.minidump.specs.Below.Index.Lookup.{looked_up}
use Rattle.minidump.specs.Memory.{memories_of_dump}
use Rattle.minidump.specs.Below.MemoryLists.Memory.{range_of_region}
use Rattle.minidump.specs.Below.MemoryLists.Unified.{UnifiedRegions, unified_regions}

-- the base address and the bytes of the kept region that contains an address, where one does
abbrev pub region_in : UnifiedRegions → ℕ → Option (ℕ × List ℕ)
region_in memory address = option_map (λ r. (r.base_address, r.bytes))
    (looked_up range_of_region (unified_regions memory) address)

-- the bytes are a minidump, and that region of its memory was found, or none where it has no memory
abbrev pub IsRegionAt : List ℕ → ℕ → Option (ℕ × List ℕ) → Type 0
IsRegionAt bytes address found = IsOkAnd (dump_in bytes) (λ dump. found
    ≡ option_and_then (λ memory. region_in memory address) (memories_of_dump dump))
