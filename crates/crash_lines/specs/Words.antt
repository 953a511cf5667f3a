-- Words of lines.
use Rattle.std.specs.Prelude.{ℕ, Bool, List, [], ◌∷◌, Option, Some, None, Result, Ok, Err, codes}
use Rattle.std.specs.Prelude.{if◌then◌else◌, ◌++◌, ◌==◌, slice_get, unwrap_or}
use Rattle.std.specs.Fmt.{decimal}
use Rattle.std.specs.List.{concat}
use Rattle.std.specs.Option.{option_map, option_map_or}
use Rattle.std.specs.Str.Lossy.{utf8_lossy}
use Rattle.minidump.specs.declared.Error.{Error}
use Rattle.minidump.specs.Below.Bytes.Piece.{hex}
use Rattle.minidump.specs.Below.Format.Error.{name_of_error}
use Rattle.minidump.specs.Below.Format.StreamType.{stream_type_of, type_name}
use Rattle.crash_streams.specs.Missing.{is_missing}
use Rattle.crash_process.specs.Modules.{LoadedValue}

-- a text, or an empty one where there is none
abbrev pub or_empty : Option (List ℕ) → List ℕ
or_empty text = unwrap_or text []

-- words where something is so, and else others
abbrev pub words_or : Bool → List ℕ → List ℕ → List ℕ
words_or is_so words others = if is_so then words else others

-- ---- the words that a part of a row writes

-- a text between words, where there is one
abbrev pub text_if : List ℕ → Option (List ℕ) → List ℕ → List ℕ
text_if before (Some text) after = concat (before ∷ text ∷ after ∷ [])
text_if before None after = []

-- a text after words, where it isn't empty
abbrev pub text_after : List ℕ → List ℕ → List ℕ
text_after words [] = []
text_after words (b ∷ bs) = concat (words ∷ (b ∷ bs) ∷ [])

-- a text of Linux after words, where there is one, with U+FFFD for what isn't UTF-8
abbrev pub lossy_if : List ℕ → Option (List ℕ) → List ℕ
lossy_if words text = text_if words (option_map utf8_lossy text) []

-- the name of an error after a colon, where there is one
abbrev pub error_words : Option Error → List ℕ
error_words error = text_if (codes ": ") (option_map name_of_error error) []

-- a number in decimal between words, where there is one
abbrev pub decimal_if : List ℕ → Option ℕ → List ℕ → List ℕ
decimal_if before n after = text_if before (option_map decimal n) after

-- a count between words, and nothing for 0
abbrev pub count_if : List ℕ → ℕ → List ℕ → List ℕ
count_if before n after = if n == 0 then [] else decimal_if before (Some n) after

-- a number in hexadecimal after words, where there is one
abbrev pub hex_if : List ℕ → Option ℕ → List ℕ
hex_if words n = text_if words (option_map hex n) []

-- the same, where it isn't this one
abbrev pub hex_unless : ℕ → List ℕ → Option ℕ → List ℕ
hex_unless known words (Some n) = if n == known then [] else hex_if words (Some n)
hex_unless known words None = []

-- the id of a process or a thread, in decimal and in hexadecimal
abbrev pub id_words : ℕ → List ℕ
id_words id = concat (decimal id ∷ codes " (" ∷ hex id ∷ codes ")" ∷ [])

-- the same after words, where it is known
abbrev pub id_if : List ℕ → Option ℕ → List ℕ
id_if words (Some id) = words ++ id_words id
id_if words None = []

-- the words for an offset in a module
abbrev pub in_module : ℕ → List ℕ → Option LoadedValue → List ℕ
in_module offset nowhere (Some m) = concat (codes " in " ∷ m.path ∷ codes "+" ∷ hex offset ∷ [])
in_module offset nowhere None = nowhere

-- the words for a place, by the index of a module and the offset in it, or these words where there
-- is none
abbrev pub place_text : List LoadedValue → List ℕ → Option (ℕ × ℕ) → List ℕ
place_text modules nowhere (Some place) =
    in_module place.1 nowhere (slice_get modules place.0)
place_text modules nowhere None = nowhere

-- ---- lines

-- the line of the number of something
unfoldable pub count_row : List ℕ → ℕ → List ℕ
count_row what count = concat (what ∷ codes " " ∷ decimal count ∷ [])

-- a line of these words, if an error says that something is missing
abbrev pub if_missing : List ℕ → Error → List (List ℕ)
if_missing words e = if is_missing e then words ∷ [] else []

-- the line of a stream that is missing, and none for one that is there, read or not
abbrev pub missing_lines : {V : Type 0} → List ℕ → Result V Error → List (List ℕ)
missing_lines words (Ok _) = []
missing_lines words (Err e) = if_missing words e

-- ---- the words for a stream, a file and a source line

-- the words for the stream of a type: its name, or `stream` and its number where it has none
abbrev pub stream_text : ℕ → List ℕ
stream_text number = option_map_or type_name (stream_type_of number)
    (concat (codes "stream " ∷ hex number ∷ []))

-- the words for the name of a file and its identifier, where it has one
abbrev pub key_text : List ℕ → List ℕ → Option (List ℕ) → List ℕ
key_text label file (Some id) = concat (label ∷ file ∷ codes "/" ∷ id ∷ [])
key_text label file None = []

-- the words for a line of a source file, or of one that isn't known
abbrev pub line_text : Option (List ℕ) → ℕ → List ℕ
line_text (Some file) line =
    concat (codes " at " ∷ utf8_lossy file ∷ codes ":" ∷ decimal line ∷ [])
line_text None line = concat (codes " at line " ∷ decimal line ∷ [])
