-- Code identifiers, as symbol servers have them: digits in lower-case hexadecimal.
use Rattle.std.specs.Prelude.{ℕ, ◌++◌, List, filter, map, false, string_bytes}
use Rattle.std.specs.Char.{is_ascii_hexdigit, to_ascii_lowercase}
use Rattle.std.specs.Fmt.{digits}
use Rattle.minidump_bytes.specs.Piece.{wide_hex}
use Rattle.minidump_modules.specs.declared.code_id.CodeId.{CodeId}

-- the digits of an identifier
abbrev pub text_of : CodeId → List ℕ
text_of id = string_bytes id.text

-- the hexadecimal digits of a text, in lower case
unfoldable pub kept_digits : List ℕ → List ℕ
kept_digits text = map to_ascii_lowercase (filter is_ascii_hexdigit text)

-- a time stamp in eight digits, and then a size
unfoldable pub stamp_form : ℕ → ℕ → List ℕ
stamp_form stamp size = wide_hex 8 stamp ++ digits 16 false size
