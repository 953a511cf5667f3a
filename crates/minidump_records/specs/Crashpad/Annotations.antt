-- The values of named annotations: Crashpad's MinidumpAnnotation, by its type.
use Rattle.std.specs.Prelude.{◌≡◌, ⊤, ℕ, ◌==◌, List, Result, Ok, nat_le, string_bytes, if◌then◌else◌}
use Rattle.std.specs.Option.{ok_or}
use Rattle.minidump_bytes.specs.declared.endian.Endian.{Endian}
use Rattle.minidump_bytes.specs.Text8.{text8}
use Rattle.minidump_format.specs.declared.error.Error.{Error}
use Rattle.minidump_format.specs.declared.error.Error.TheVariants.{StreamReadFailure}
use Rattle.minidump_format.specs.declared.format.crashpad.MINIDUMP_ANNOTATION.{MINIDUMP_ANNOTATION}
use Rattle.minidump_system.specs.Reads.{and_then}
use Rattle.minidump_records.specs.declared.crashpad.annotation.MinidumpAnnotation.{MinidumpAnnotation}
use Rattle.minidump_records.specs.declared.crashpad.annotation.MinidumpAnnotation.TheVariants.{Invalid, String}
use Rattle.minidump_records.specs.declared.crashpad.annotation.MinidumpAnnotation.TheVariants.{UserDefined, Unsupported}

-- the value of an annotation; of types that are not read it is the record
pub data Annotation : Type 0 where
  invalid : Annotation
  text : List ℕ → Annotation
  user_defined : MINIDUMP_ANNOTATION → Annotation
  unsupported : MINIDUMP_ANNOTATION → Annotation

-- the annotation of a `MinidumpAnnotation`
abbrev pub annotation_of : MinidumpAnnotation → Annotation
annotation_of Invalid = invalid
annotation_of (String s) = text (string_bytes s)
annotation_of (UserDefined raw) = user_defined raw
annotation_of (Unsupported raw) = unsupported raw

-- the annotation of a record, by its type: 0 is invalid, 1 is a text, which needs no NUL after it,
-- and 0x8000 and above are user-defined. Only the value of a text is read
abbrev pub annotation_in : Endian → List ℕ → MINIDUMP_ANNOTATION → Result Annotation Error
annotation_in order file raw =
    if raw.ty == 0 then Ok invalid else (
    if raw.ty == 1
    then and_then (ok_or (text8 order raw.value file) StreamReadFailure) (λ bytes. Ok (text bytes))
    else (
    if nat_le 0x8000 raw.ty then Ok (user_defined raw) else Ok (unsupported raw)))

-- the reads of a value: one for a text, none for another
abbrev pub annotation_reads : Annotation → ℕ
annotation_reads (text bytes) = 1
annotation_reads _ = 0

-- the value is a text
abbrev pub IsText : Annotation → Type 0
IsText (text bytes) = ⊤
IsText _ = ⊥

-- both are invalid, or equal texts
abbrev pub AreSame : Annotation → Annotation → Type 0
AreSame invalid invalid = ⊤
AreSame (text bytes) (text other) = bytes ≡ other
AreSame _ _ = ⊥
