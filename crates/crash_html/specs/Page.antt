-- A page with a JSON text as data of a script element (HTML, "script data state"; RFC 8259, section
-- 7).
use Rattle.std.specs.Prelude.{ℕ, Bool, not, ◌||◌, ◌==◌, List, [], ◌∷◌, ◌++◌, chars, codes, encode_utf8_all}
use Rattle.std.specs.Prelude.{if◌then◌else◌}
use Rattle.std.specs.List.{flat_map}
use Rattle.crash_html.specs.declared.head.TheConstants.{HEAD}
use Rattle.crash_html.specs.declared.tail.TheConstants.{TAIL}

-- a character as embedded: its escape if it could end the data or begin what isn't text, otherwise
-- itself
abbrev pub embedded_char : ℕ → List ℕ
embedded_char c =
    if c == 0x3c then codes "\\u003c"
    else if c == 0x3e then codes "\\u003e"
    else if c == 0x26 then codes "\\u0026"
    else if c == 0x2028 then codes "\\u2028"
    else if c == 0x2029 then codes "\\u2029"
    else c ∷ []

-- a text of JSON as embedded
abbrev pub embedded_json : List ℕ → List ℕ
embedded_json json = encode_utf8_all (flat_map embedded_char (chars json))

-- whether a byte neither begins nor ends a tag, nor begins a reference
abbrev pub is_inert : ℕ → Bool
is_inert b = not (b == 0x3c || b == 0x3e || b == 0x26)

-- the page with a text of JSON
unfoldable pub page_with : List ℕ → List ℕ
page_with json = HEAD.now ++ embedded_json json ++ TAIL.now
