-- Crashpad's lists: the bytes at a location are a 32-bit count and that many entries. Each entry
-- names a part of the file.
use Rattle.std.specs.Prelude.{IsOkAnd, ℕ, zero, suc, ◌+◌, ◌*◌, ◌<◌, ◌≤◌, ◌==◌, ◌⊎◌, List, [], ◌∷◌, ◌++◌, length, Result}
use Rattle.std.specs.Prelude.{Ok, Err, nat_lt, if◌then◌else◌}
use Rattle.std.specs.Option.{ok_or}
use Rattle.minidump_bytes.specs.declared.endian.Endian.{Endian}
use Rattle.minidump_bytes.specs.Layout.{Layout, number_layout}
use Rattle.minidump_bytes.specs.Span.{record_at}
use Rattle.minidump_format.specs.Header.{located}
use Rattle.minidump_format.specs.declared.error.Error.{Error}
use Rattle.minidump_format.specs.declared.error.Error.TheVariants.{StreamReadFailure, StreamSizeMismatch}
use Rattle.minidump_format.specs.declared.format.header.MINIDUMP_LOCATION_DESCRIPTOR.{MINIDUMP_LOCATION_DESCRIPTOR}
use Rattle.minidump_system.specs.Reads.{and_then}

-- the values of a reading at the indices below a number, or the error of the first index that has
-- one
unfoldable pub each : {V : Type 0} → (ℕ → Result V Error) → ℕ → Result (List V) Error
each read zero = Ok []
each read (suc n) = and_then (each read n) (λ vs. and_then (read n) (λ v. Ok (vs ++ v ∷ [])))

-- the bytes of a list, and the count that they begin with
pub record EntryList : Type 0 where
  pub bytes : List ℕ
  pub count : ℕ

-- the list of its bytes and its count
abbrev pub list_of : List ℕ → ℕ → EntryList
list_of bytes count = record { bytes = bytes; count = count }

-- the list at a location. A list of no bytes has no entries, but its RVA may not lie after the end
-- of the file. A list of 1 to 3 bytes is an error, as its count is missing
unfoldable pub list_at : Endian → List ℕ → MINIDUMP_LOCATION_DESCRIPTOR → Result EntryList Error
list_at order file l =
    and_then (ok_or (located file l) StreamReadFailure) (λ bytes.
    if l.data_size == 0 then Ok (list_of bytes 0) else
    and_then (ok_or (record_at (number_layout 4) order 0 bytes) StreamReadFailure)
    (λ count. Ok (list_of bytes count)))

-- the list at a location counts an entry: its parts take memory
abbrev pub CountsEntry : Endian → List ℕ → MINIDUMP_LOCATION_DESCRIPTOR → Type 0
CountsEntry order file l = IsOkAnd (list_at order file l) (λ list. 0 < list.count)

-- the reads of a list before its entries: its bytes, and its count unless its location is empty
abbrev pub list_reads : MINIDUMP_LOCATION_DESCRIPTOR → ℕ
list_reads l = if l.data_size == 0 then 1 else 2

module _ {R V : Type 0} (layout : Layout R) (part : Endian → List ℕ → R → Result V Error)
    (order : Endian) (file : List ℕ) where
  -- the part that the entry at an index names. The entries come after the count, in the bytes of
  -- the location; the parts may be anywhere in the file
  abbrev pub part_at : List ℕ → ℕ → Result V Error
  part_at bytes i =
      and_then (ok_or (record_at layout order (4 + layout.size * i) bytes) StreamReadFailure)
      (part order file)

  -- the parts that the entries name, in the order of the entries
  abbrev pub parts : EntryList → Result (List V) Error
  parts list = each (part_at list.bytes) list.count

  -- the parts of the list at a location, with any count; the first entry that is missing is an
  -- error
  unfoldable pub untested_list : MINIDUMP_LOCATION_DESCRIPTOR → Result (List V) Error
  untested_list l = and_then (list_at order file l) parts

  -- the parts of the list at a location, where the entries that it counts are no more bytes than
  -- the whole file has
  unfoldable pub tested_list : MINIDUMP_LOCATION_DESCRIPTOR → Result (List V) Error
  tested_list l = and_then (list_at order file l) (λ list.
      if nat_lt (length file) (layout.size * list.count)
      then Err (StreamSizeMismatch (layout.size * list.count) (length file))
      else parts list)

-- the most steps from `old` to `new` for the entry that ends at the offset `entry_end`: one for the
-- entry, and those of the part that it names only if the entry lies within the bytes
abbrev pub WithinPart : ℕ → ℕ → ℕ → ℕ → ℕ → Type 0
WithinPart entry_end bytes part_reads old new =
    (new ≤ old + 1) ⊎ ((entry_end ≤ bytes) × (new ≤ old + 1 + part_reads))

-- the most steps from `old` to `new` for entries within a number of bytes: one for each entry, and
-- those of the part that it names; and one more for an entry that is missing
abbrev pub WithinParts : ℕ → ℕ → ℕ → ℕ → ℕ → Type 0
WithinParts entry_size bytes part_reads old new =
    (k : ℕ) × (entry_size * k ≤ bytes) × (new ≤ old + 1 + k * (1 + part_reads))
