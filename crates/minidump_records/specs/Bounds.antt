-- How much the values of MINIDUMP_HANDLE_DATA_STREAM and of Crashpad's information hold at most, by
-- the length of their file.
use Rattle.std.specs.Prelude.{◌≡◌, ℕ, ◌+◌, ◌-◌, ◌*◌, ◌<◌, ◌≤◌, All, IfOk, List, Option, Some, length}
use Rattle.minidump_bytes.specs.declared.endian.Endian.{Endian}
use Rattle.minidump_bytes.specs.Span.{span}
use Rattle.minidump_system.specs.StreamSpec.{Meaning}
use Rattle.minidump_system.specs.System.{System}
use Rattle.minidump_records.specs.Crashpad.{Crashpad}
use Rattle.minidump_records.specs.Handles.{Handle}

-- each value that a meaning gives for a span of a file keeps within a bound by the length of the
-- file
abbrev pub IsBoundedByTheFile : {V : Type 0} → Meaning V → (ℕ → V → Type 0) → Type 0
IsBoundedByTheFile meaning KeepsWithin =
    (order : Endian) (file bytes : List ℕ) (from to : ℕ) (system : Option System)
    → span from to file ≡ Some bytes
    → IfOk (meaning order file bytes system) (KeepsWithin (length file))

-- entries of a size, after a header, take no more bytes than there are; a list without entries may
-- lack its header
abbrev pub FitsAfter : {V : Type 0} → ℕ → ℕ → ℕ → List V → Type 0
FitsAfter header size n entries = 0 < length entries → header + size * length entries ≤ n

-- handles have 32 bytes each; pieces of information are at different offsets, none of them 0, and
-- have 12 bytes
pub record HandlesAreWithin (n : ℕ) (handles : List Handle) : Type 0 where
  pub entries : 32 * length handles ≤ n
  pub infos : All (λ h. length h.object_infos ≤ n - 12) handles

-- a list has a count of 4 bytes; links have 12 bytes each, and RVAs of texts 4
pub record CrashpadIsWithin (n : ℕ) (c : Crashpad) : Type 0 where
  pub modules : FitsAfter 4 12 n c.module_list
  pub texts : All (λ m. FitsAfter 4 4 n m.list_annotations) c.module_list
