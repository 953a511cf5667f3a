-- How a text of a dump is printed, so that it begins no line, and how a text gains lines.
use Rattle.std.specs.Prelude.{ℕ, Bool, false, not, ◌&&◌, ◌||◌, ◌==◌, nat_le, List, [], ◌∷◌, ◌++◌}
use Rattle.std.specs.Prelude.{chars, codes, encode_utf8_all, if◌then◌else◌, ◌≡◌, OnOk, Option, Some}
use Rattle.std.specs.Prelude.{None, Result, Ok, Err, String, string_bytes}
use Rattle.std.specs.Fmt.{digits}
use Rattle.std.specs.Int.{is_in_range}
use Rattle.std.specs.List.{concat, flat_map}
use Rattle.std.specs.Global.{Global}
use Rattle.std.specs.declared.alloc.AllocError.{AllocError}
use Rattle.minidump.specs.declared.Error.{Error}

-- whether a character is printed as an escape: a control character, a line or paragraph separator,
-- a mark of direction
abbrev pub is_control : ℕ → Bool
is_control c = is_in_range 0 0x1f c || is_in_range 0x7f 0x9f c || c == 0x61c
    || is_in_range 0x200e 0x200f c || is_in_range 0x2028 0x202e c || is_in_range 0x2066 0x2069 c

-- the escape of a character: its number in hexadecimal
abbrev pub escape : ℕ → List ℕ
escape c = codes "\\u{" ++ digits 16 false c ++ codes "}"

-- what a character is printed as
abbrev pub escape_char : ℕ → List ℕ
escape_char c = if is_control c then escape c else c ∷ []

-- what a text is printed as
abbrev pub escaped_text : List ℕ → List ℕ
escaped_text text = encode_utf8_all (flat_map escape_char (chars text))

-- whether a byte is printed: no control character but the end of a line
abbrev pub is_printed : ℕ → Bool
is_printed b = b == 0x0a || (nat_le 0x20 b && not (b == 0x7f))

-- ---- lines

-- a line: a text as it is printed, and its end
unfoldable pub line_of : List ℕ → List ℕ
line_of text = escaped_text text ++ 0x0a ∷ []

-- a call that returns `Ok` has appended lines to a text, each as it is printed
abbrev pub Adds : String Global → String Global → List (List ℕ) → Result (Unit {0}) AllocError
    → Type 0
Adds old new lines result =
    OnOk result (string_bytes new ≡ string_bytes old ++ flat_map line_of lines)

-- the line of a text, and none where it is empty
abbrev pub row_of : List ℕ → List (List ℕ)
row_of [] = []
row_of (b ∷ bs) = (b ∷ bs) ∷ []

-- the lines of rows, each of the words that it is made of: none for a row without any
abbrev pub table : List (List (List ℕ)) → List (List ℕ)
table rows = flat_map (λ words. row_of (concat words)) rows

-- lines below a heading, and neither where there are no lines
abbrev pub headed : List ℕ → List (List ℕ) → List (List ℕ)
headed heading [] = []
headed heading (line ∷ lines) = heading ∷ line ∷ lines

-- the lines for a value, and none where there is none
abbrev pub if_some : {X : Type 0} → (X → List (List ℕ)) → Option X → List (List ℕ)
if_some lines (Some x) = lines x
if_some lines None = []

-- the lines for what a stream says, and none where it can't be read
abbrev pub if_ok : {X : Type 0} → (X → List (List ℕ)) → Result X Error → List (List ℕ)
if_ok lines (Ok x) = lines x
if_ok lines (Err _) = []
