-- The streams that several parts of a report print, as they were read.
use Rattle.std.specs.Prelude.{◌≡◌, Result, Ok, Err}
use Rattle.minidump_format.specs.declared.error.Error.{Error}
use Rattle.minidump_memory.specs.declared.unified.UnifiedMemoryList.{UnifiedMemoryList}
use Rattle.minidump_memory.specs.Unified.{Memory64, UnifiedRegions, plain_regions, unified_list}
use Rattle.minidump_system.specs.StreamSpec.{StreamSpec}
use Rattle.minidump.specs.declared.shared.SharedStreams.{SharedStreams}
use Rattle.minidump.specs.Dump.{Dump, IsStreamOf, stream_of}
use Rattle.minidump.specs.Promise.{exception_stream, memory64_list_stream, memory_list_stream, thread_list_stream}

-- a result is the stream of a table, as a list of one kind of memory, or its error
abbrev pub IsListOf : {S V : Type 0} → StreamSpec S V → (V → UnifiedRegions) → Dump
    → Result UnifiedMemoryList Error → Type 0
IsListOf {S} {V} spec kind dump (Ok list) =
    (regions : V) × (stream_of spec dump ≡ Ok regions) × (unified_list list ≡ kind regions)
IsListOf spec kind dump (Err e) = IsStreamOf spec dump (Err e)

-- they are the streams of a dump
pub record AreShared (dump : Dump) (streams : SharedStreams) : Type 0 where
  pub exception : IsStreamOf exception_stream dump streams.exception
  pub threads : IsStreamOf thread_list_stream dump streams.threads
  pub memory64 : IsListOf memory64_list_stream Memory64 dump streams.memory64
  pub memory : IsListOf memory_list_stream plain_regions dump streams.memory
