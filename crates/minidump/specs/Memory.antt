-- The memory of a minidump, by either kind of list.
use Rattle.std.specs.Prelude.{◌≡◌, ◌⊎◌, List, Option, Some, None, Result, Ok, Err}
use Rattle.std.specs.Result.{result_ok}
use Rattle.minidump_format.specs.declared.error.Error.{Error}
use Rattle.minidump_format.specs.declared.format.memory.MINIDUMP_MEMORY_DESCRIPTOR64.{MINIDUMP_MEMORY_DESCRIPTOR64}
use Rattle.minidump_memory.specs.Memory.{MemoryRegion}
use Rattle.minidump_memory.specs.MemoryList.{PlainMemory}
use Rattle.minidump_memory.specs.Unified.{Memory64, UnifiedRegions, plain_regions}
use Rattle.minidump.specs.Dump.{Dump, stream_memory, stream_of}
use Rattle.minidump.specs.Promise.{memory_list_stream, memory64_list_stream}

-- the 64-bit list; the memory list where that one is missing or malformed; none where both are. A
-- 64-bit list that was read hides the memory list also where it does not have an address
abbrev pub first_found : Result (List (MemoryRegion MINIDUMP_MEMORY_DESCRIPTOR64)) Error
    → Result PlainMemory Error → Option UnifiedRegions
first_found (Ok long) plain = Some (Memory64 long)
first_found (Err _) (Ok plain) = Some (plain_regions plain)
first_found (Err _) (Err _) = None

-- the memory of a dump: of Memory64ListStream, else of MemoryListStream, the first that is there
-- and not malformed
abbrev pub memories_of_dump : Dump → Option UnifiedRegions
memories_of_dump d =
    first_found (stream_of memory64_list_stream d) (stream_of memory_list_stream d)

-- the 64-bit list takes memory, or it is missing or malformed and the memory list does
abbrev pub TakesMemory : Dump → Type 0
TakesMemory d =
    stream_memory memory64_list_stream d
    ⊎ ((result_ok (stream_of memory64_list_stream d) ≡ None) × stream_memory memory_list_stream d)
