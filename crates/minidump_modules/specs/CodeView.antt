-- CodeView records: Microsoft's `RSDS` and `NB10`, and Breakpad's MDCVInfoELF of minidump_format.h.
use Rattle.std.specs.Prelude.{ℕ, ◌+◌, ◌<◌, ◌==◌, List, length, drop, slice_range, Option, Some, None, IsSomeAnd, Result}
use Rattle.std.specs.Prelude.{Ok, Err, IsOkAnd, nat_lt, if◌then◌else◌}
use Rattle.std.specs.List.{before_first}
use Rattle.std.specs.Option.{ok_or}
use Rattle.std.specs.Str.Lossy.{utf8_lossy}
use Rattle.minidump_bytes.specs.declared.endian.Endian.{Endian}
use Rattle.minidump_bytes.specs.Number.{number_at}
use Rattle.minidump_format.specs.CodeView.{signature_of}
use Rattle.minidump_format.specs.Guid.{guid}
use Rattle.minidump_format.specs.Header.{located}
use Rattle.minidump_format.specs.declared.error.Error.{Error}
use Rattle.minidump_format.specs.declared.error.Error.TheVariants.{CodeViewReadFailure}
use Rattle.minidump_format.specs.declared.format.code_view.CvSignature.{CvSignature}
use Rattle.minidump_format.specs.declared.format.code_view.CvSignature.TheVariants as signature
use Rattle.minidump_format.specs.declared.format.guid.GUID.{GUID}
use Rattle.minidump_format.specs.declared.format.header.MINIDUMP_LOCATION_DESCRIPTOR.{MINIDUMP_LOCATION_DESCRIPTOR}
use Rattle.minidump_system.specs.Reads.{and_then}
use Rattle.minidump_modules.specs.declared.code_view.CodeView.{CodeView}
use Rattle.minidump_modules.specs.declared.code_view.CodeView.TheVariants.{Pdb20, Pdb70, Elf, Unknown}

-- a CodeView record as a value; each but the last begins with its signature
pub data View : Type 0 where
  -- then GUID, age and name
  pdb70 : ℕ → GUID → ℕ → List ℕ → View
  -- then offset, time stamp, age and name
  pdb20 : ℕ → ℕ → ℕ → ℕ → List ℕ → View
  -- then a build id
  elf : ℕ → List ℕ → View
  unknown : List ℕ → View

-- the CodeView record of a `CodeView`
abbrev pub view_of : CodeView → View
view_of (Pdb70 r) = pdb70 r.cv_signature r.signature r.age r.pdb_file_name.items
view_of (Pdb20 r) = pdb20 r.cv_signature r.cv_offset r.signature r.age r.pdb_file_name.items
view_of (Elf r) = elf r.cv_signature r.build_id.items
view_of (Unknown bytes) = unknown bytes.items

-- the GUID of Microsoft's CV_INFO_PDB70
unfoldable pub pdb70_guid : Endian → List ℕ → GUID
pdb70_guid order bytes = guid.value order (slice_range bytes 4 20)

-- Microsoft's CV_INFO_PDB70: 24 bytes and a name
unfoldable pub pdb70_in : Endian → List ℕ → Result View Error
pdb70_in order bytes =
    if nat_lt (length bytes) 24 then Err CodeViewReadFailure else
    Ok (pdb70 (number_at order 4 0 bytes) (pdb70_guid order bytes) (number_at order 4 20 bytes)
    (drop 24 bytes))

-- Microsoft's CV_INFO_PDB20: 16 bytes and a name
unfoldable pub pdb20_in : Endian → List ℕ → Result View Error
pdb20_in order bytes =
    if nat_lt (length bytes) 16 then Err CodeViewReadFailure else
    Ok (pdb20 (number_at order 4 0 bytes) (number_at order 4 4 bytes) (number_at order 4 8 bytes)
    (number_at order 4 12 bytes) (drop 16 bytes))

-- the record of a kind
abbrev record_of : Endian → List ℕ → Option CvSignature → Result View Error
record_of order bytes (Some signature.Pdb70) = pdb70_in order bytes
record_of order bytes (Some signature.Pdb20) = pdb20_in order bytes
record_of order bytes (Some signature.Elf) = Ok (elf (number_at order 4 0 bytes) (drop 4 bytes))
record_of order bytes None = Ok (unknown bytes)

-- the record that bytes are, by the signature in the first four
unfoldable pub code_view : Endian → List ℕ → Result View Error
code_view order bytes =
    if nat_lt (length bytes) 4 then Err CodeViewReadFailure else
    record_of order bytes (signature_of (number_at order 4 0 bytes))

-- the record at a location: none where that has no size
unfoldable pub code_view_at : Endian → List ℕ → MINIDUMP_LOCATION_DESCRIPTOR
    → Result (Option View) Error
code_view_at order file location =
    if location.data_size == 0 then Ok None else
    and_then (ok_or (located file location) CodeViewReadFailure)
    (λ bytes. and_then (code_view order bytes) (λ view. Ok (Some view)))

-- the bytes that a record copies: a name, a build id, or all of a record of an unknown kind
abbrev pub copied_bytes : View → List ℕ
copied_bytes (pdb70 s g age name) = name
copied_bytes (pdb20 s offset signature age name) = name
copied_bytes (elf s id) = id
copied_bytes (unknown bytes) = bytes

-- a record has bytes to copy
abbrev pub CopiesBytes : View → Type 0
CopiesBytes view = 0 < length (copied_bytes view)

-- the read of a record takes memory: it is well-formed, and has bytes to copy
abbrev pub RecordTakesMemory : Result View Error → Type 0
RecordTakesMemory read = IsOkAnd read CopiesBytes

-- the read of a record at a location takes memory: there is one, with bytes to copy
abbrev pub ViewTakesMemory : Result (Option View) Error → Type 0
ViewTakesMemory read = IsOkAnd read (λ found. IsSomeAnd found CopiesBytes)

-- the reads that a record takes: one for its signature, and one for each field; a record of an
-- unknown kind has one field, all of its bytes
abbrev pub record_reads : View → ℕ
record_reads (pdb70 s g age name) = 4
record_reads (pdb20 s offset signature age name) = 5
record_reads (elf s id) = 2
record_reads (unknown bytes) = 2

-- the reads that a location takes: one for the span of the record, and those of the record; 5 for
-- `RSDS`, 6 for `NB10`, and 3 for others
abbrev pub view_reads : Option View → ℕ
view_reads None = 0
view_reads (Some view) = 1 + record_reads view

-- the bytes before the first NUL as a text, with U+FFFD for what is not UTF-8: one for each longest
-- prefix of a well-formed sequence that can't go on, and else one for each byte
unfoldable pub lossy_name : List ℕ → List ℕ
lossy_name bytes = utf8_lossy (before_first (λ b. b == 0) bytes)
