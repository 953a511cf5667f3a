-- A directory in which a stream is found has an entry.
use Rattle.std.proofs.Common.{◌≡◌, ℕ, ◌<◌, List, Some, None, length, refl, ap, inl, inr}
use Rattle.std.proofs.lemmas.Bool.{false≢true}
use Rattle.std.specs.Option.{option_map}
use Rattle.std.specs.Result.{result_ok}
use Rattle.std.specs.Prelude.{◌↔◌, Option, Result, Ok, Err, IfErr, IsOk, IsOkAnd, IsSome, OnOk}
use Rattle.minidump_bytes.proofs.EntryLemmas.{length-entries}
use Rattle.minidump_format.specs.declared.error.Error.{Error}
use Rattle.minidump_format.specs.declared.error.Error.TheVariants.{OutOfMemory}
use Rattle.minidump_format.specs.declared.format.memory.MINIDUMP_MEMORY_DESCRIPTOR64.{MINIDUMP_MEMORY_DESCRIPTOR64}
use Rattle.minidump_format.specs.Header.{directory_entry}
use Rattle.minidump_system.specs.Reads.{and_then}
use Rattle.minidump_system.specs.StreamSpec.{StreamSpec}
use Rattle.minidump_memory.specs.Memory.{MemoryRegion}
use Rattle.minidump_memory.specs.MemoryList.{PlainMemory}
use Rattle.minidump_memory.specs.Unified.{plain_regions}
use Rattle.minidump.specs.declared.directory.DecidingEntry.{DecidingEntry}
use Rattle.minidump.specs.Directory.{deciding_entry, directory}
use Rattle.minidump.specs.Dump.{Dump, dump_system, raw_stream, stream_memory, stream_of}
use Rattle.minidump.specs.Memory.{TakesMemory, memories_of_dump}
use Rattle.minidump.specs.Promise.{memory64_list_stream, memory_list_stream}
use Rattle.minidump.proofs.DirectoryLemmas.{deciding_entry-among_some}

-- where the bytes of a stream are found
pub bytes_have_entry : (d : Dump) (stream_type : ℕ) → IsOk (raw_stream stream_type d) → 0 < d.header.stream_count
bytes_have_entry d stream_type found = by_entry (deciding_entry stream_type (directory d.order d.file d.header)) refl found
  where
    by_entry : (o : Option DecidingEntry) → deciding_entry stream_type (directory d.order d.file d.header) ≡ o → IsOk (raw_stream stream_type d)
        → 0 < d.header.stream_count
    by_entry (Some entry) is k =
        let some : 0 < length (directory d.order d.file d.header) = deciding_entry-among_some stream_type (directory d.order d.file d.header) entry is in
        rw (length-entries directory_entry d.order d.file d.header.stream_directory_rva d.header.stream_count) at some
    by_entry None is k = absurd (false≢true (rw is at k))

module _ {S V : Type 0} (spec : StreamSpec S V) (d : Dump) where
  -- where its value is found, its bytes are
  by_value : (r : Result (List ℕ) Error) → raw_stream spec.stream_type d ≡ r → IsOk (stream_of spec d)
      → IsOk (raw_stream spec.stream_type d)
  by_value (Ok bytes) is k = rw is refl
  by_value (Err e) is k = absurd (false≢true (rw is at k))

  pub stream_has_entry : IsOk (stream_of spec d) → 0 < d.header.stream_count
  stream_has_entry found =
      bytes_have_entry d spec.stream_type (by_value (raw_stream spec.stream_type d) refl found)

  -- where it takes memory, its bytes are found
  by_memory : (r : Result (List ℕ) Error) → raw_stream spec.stream_type d ≡ r → stream_memory spec d
      → IsOk (raw_stream spec.stream_type d)
  by_memory (Ok bytes) is k = rw is refl
  by_memory (Err e) is k = absurd (rw is at k)

  pub memory_has_entry : stream_memory spec d → 0 < d.header.stream_count
  memory_has_entry takes =
      bytes_have_entry d spec.stream_type (by_memory (raw_stream spec.stream_type d) refl takes)

  -- what is read of its bytes, and where that takes memory
  pub stream_by_bytes : (r : Result (List ℕ) Error) → raw_stream spec.stream_type d ≡ r
      → stream_of spec d ≡ and_then r (λ bytes. spec.meaning d.order d.file bytes (dump_system d))
  stream_by_bytes (Ok bytes) is = rw is refl
  stream_by_bytes (Err e) is = rw is refl

  pub memory_by_bytes : (r : Result (List ℕ) Error) → raw_stream spec.stream_type d ≡ r
      → stream_memory spec d ↔ IsOkAnd r (λ bytes. spec.memory d.order d.file bytes (dump_system d))
  memory_by_bytes r is = rw is (λ x. x, λ x. x)

-- the same of the memory of a dump, by either list
pub regions_take_entry : (d : Dump) → TakesMemory d → 0 < d.header.stream_count
regions_take_entry d takes = elim takes [
  | inl long ↦ memory_has_entry memory64_list_stream d long
  | inr plain ↦ memory_has_entry memory_list_stream d plain.1
]

pub regions_have_entry : (d : Dump) → IsSome (memories_of_dump d) → 0 < d.header.stream_count
regions_have_entry d some = by_lists (stream_of memory64_list_stream d) (stream_of memory_list_stream d) refl refl some
  where
    by_lists : (long : Result (List (MemoryRegion MINIDUMP_MEMORY_DESCRIPTOR64)) Error) (plain : Result PlainMemory Error)
        → stream_of memory64_list_stream d ≡ long → stream_of memory_list_stream d ≡ plain
        → IsSome (memories_of_dump d) → 0 < d.header.stream_count
    by_lists (Ok l) plain is_long is_plain k = stream_has_entry memory64_list_stream d (rw is_long refl)
    by_lists (Err e) (Ok p) is_long is_plain k = stream_has_entry memory_list_stream d (rw is_plain refl)
    by_lists (Err e) (Err f) is_long is_plain k = absurd (false≢true (rw (is_long, is_plain) at k))

-- the memory of a dump whose 64-bit list isn't found
pub memory_of_plain : (d : Dump) (found : Option PlainMemory) → result_ok (stream_of memory64_list_stream d) ≡ None
    → result_ok (stream_of memory_list_stream d) ≡ found → memories_of_dump d ≡ option_map plain_regions found
memory_of_plain d found none is = by_lists (stream_of memory64_list_stream d) (stream_of memory_list_stream d) refl refl none is
  where
    by_lists : (long : Result (List (MemoryRegion MINIDUMP_MEMORY_DESCRIPTOR64)) Error) (plain : Result PlainMemory Error)
        → stream_of memory64_list_stream d ≡ long → stream_of memory_list_stream d ≡ plain → result_ok (stream_of memory64_list_stream d) ≡ None
        → result_ok (stream_of memory_list_stream d) ≡ found → memories_of_dump d ≡ option_map plain_regions found
    by_lists (Ok l) plain is_long is_plain none is = let never : Some l ≡ None = rw is_long at none in cc
    by_lists (Err e) (Ok p) is_long is_plain none is = rw (is_long, is_plain) (ap (option_map plain_regions) (rw is_plain at is))
    by_lists (Err e) (Err f) is_long is_plain none is = rw (is_long, is_plain) (ap (option_map plain_regions) (rw is_plain at is))

-- ---- what a call returns

-- what an entry gives, whatever is returned
pub on_ok : {X P : Type 0} (r : Result X Error) → P → OnOk r P
on_ok (Ok x) has = has
on_ok (Err e) has = tt

pub on_no_memory : {X P : Type 0} (r : Result X Error) → P → IfErr r (λ e. e ≡ OutOfMemory → P)
on_no_memory (Ok x) has = tt
on_no_memory (Err e) has = λ out. has
