-- Texts of a file and dictionaries: Crashpad's MinidumpUTF8String with its NUL,
-- MinidumpSimpleStringDictionary and MinidumpAnnotationList.
use Rattle.std.specs.Prelude.{ℕ, IsOk, List, map, Result, Ok, string_bytes, String}
use Rattle.std.specs.Global.{Global}
use Rattle.std.specs.Option.{ok_or}
use Rattle.minidump_bytes.specs.declared.endian.Endian.{Endian}
use Rattle.minidump_bytes.specs.Layout.{Layout}
use Rattle.minidump_bytes.specs.Text8.{text8_nul}
use Rattle.minidump_format.specs.declared.error.Error.{Error}
use Rattle.minidump_format.specs.declared.error.Error.TheVariants.{StreamReadFailure}
use Rattle.minidump_format.specs.declared.format.header.MINIDUMP_LOCATION_DESCRIPTOR.{MINIDUMP_LOCATION_DESCRIPTOR}
use Rattle.minidump_system.specs.LastValues.{dictionary_of}
use Rattle.minidump_system.specs.Reads.{and_then}
use Rattle.minidump_records.specs.declared.crashpad.dictionary.Pair.{Pair}
use Rattle.minidump_records.specs.Crashpad.Parts.{untested_list}

-- the text at an RVA, after which a NUL has to stand
abbrev pub text_in : Endian → List ℕ → ℕ → Result (List ℕ) Error
text_in order file rva = ok_or (text8_nul order rva file) StreamReadFailure

-- a text is at an RVA; only then memory is taken, and may run out
abbrev pub HasText : Endian → List ℕ → ℕ → Type 0
HasText order file rva = IsOk (text_in order file rva)

-- the key and the value that an entry names
abbrev pub pair_in : {E V : Type 0} → (E → ℕ) → (Endian → List ℕ → E → Result V Error) → Endian
    → List ℕ → E → Result (List ℕ × V) Error
pair_in key value order file e =
    and_then (text_in order file (key e)) (λ k. and_then (value order file e) (λ v. Ok (k, v)))

-- the key and the value of an entry
abbrev pub pair_of : {V W : Type 0} → (V → W) → Pair V → List ℕ × W
pair_of value p = (string_bytes p.key, value p.value)

-- the entries of a map whose keys are texts, ascending by the bytes of the key
abbrev pub entries_of : {V W : Type 0} → (V → W) → List (String Global × V) → List (List ℕ × W)
entries_of value es = map (λ e. (string_bytes e.0, value e.1)) es

-- the dictionary at a location: of entries with one key the last is kept
-- (`dictionaries_have_the_last_values`). Each entry is read: a malformed one is an error also where
-- a later one has its key
unfoldable pub dictionary : {R V : Type 0} → Layout R → (R → ℕ)
    → (Endian → List ℕ → R → Result V Error) → Endian → List ℕ → MINIDUMP_LOCATION_DESCRIPTOR
    → Result (List (List ℕ × V)) Error
dictionary layout key value order file l =
    and_then (untested_list layout (pair_in key value) order file l)
    (λ pairs. Ok (dictionary_of pairs))
