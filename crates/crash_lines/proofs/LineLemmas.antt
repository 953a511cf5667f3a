-- Lines have no control characters but their ends, a text without any is its own, and the values of lines.
use Rattle.std.proofs.Common.{◌≡◌, ℕ, ◌<◌, Bool, true, false, List, [], ◌∷◌, ap, append-nil, refl, ◌∙◌, ⊎_elim, arith, chars, codes, encode_utf8_all, nat_lt}
use Rattle.std.proofs.Common.{IsUtf8}
use Rattle.std.proofs.lemmas.Bool.{and_from, and_parts, cases_Bool, or_parts}
use Rattle.std.proofs.lemmas.Bool.Decides.{nat_tests}
use Rattle.std.proofs.lemmas.Fmt.{digits_is_IsNumeral}
use Rattle.std.proofs.lemmas.List.Concat.{flat_map-cons}
use Rattle.std.proofs.lemmas.List.Folds.{list_all-append}
use Rattle.std.proofs.lemmas.Str.{encode_ascii, encodes-append, encodes-chars}
use Rattle.std.specs.Char.{digit_value}
use Rattle.std.specs.Fmt.{digits}
use Rattle.std.specs.List.{flat_map, list_all, list_any}
use Rattle.std.specs.Str.Parse.{AllDigits}
use Rattle.std.proofs.lemmas.List.{length-map, map-id, take-map}
use native.Mathlib.Nat.{lt_trans}
use lib.Dec.{lit<}
use lib.Utf8.{encode}
use Rattle.crash_lines.specs.Lines.{escape, escape_char, escaped_text, is_control, is_printed}
use Rattle.crash_lines.specs.Lines.{line_of}

-- ---- escapes

small : (c : ℕ) → is_control c ≡ true → c < 0x2070
small c h = grind (arith, nat_tests)

all_digits : (p : ℕ → Bool) → ((d : ℕ) → digit_value d < 16 → p d ≡ true) → (ds : List ℕ) → AllDigits 16 ds → list_all p ds ≡ true
all_digits p each [] h = refl
all_digits p each (d ∷ ds) h = and_from _ _ (each d h.0) (all_digits p each ds h.1)

-- what holds of each digit and of the bytes around them holds of an escape
escape_all : (p : ℕ → Bool) → ((d : ℕ) → digit_value d < 16 → p d ≡ true) → list_all p (codes "\\u{") ≡ true → list_all p (codes "}") ≡ true
    → (c : ℕ) → is_control c ≡ true → list_all p (escape c) ≡ true
escape_all p each before after c h =
    let numeral = digits_is_IsNumeral 16 false (omega arith) (omega arith) c (lt_trans (small c h) (lit< tt)) in
    let number : list_all p (digits 16 false c) ≡ true = all_digits p each (digits 16 false c) numeral.0.1 in
    rw (list_all-append p (codes "\\u{"), list_all-append p (digits 16 false c)) (and_from _ _ before (and_from _ _ number after))

-- an escape is of ASCII
below : (b : ℕ) → nat_lt b 128 ≡ true → b < 128
below b h = grind (arith, nat_tests)

ascii_bytes : (bs : List ℕ) → list_all (λ b. nat_lt b 128) bs ≡ true → encode_utf8_all bs ≡ bs
ascii_bytes [] h = refl
ascii_bytes (b ∷ bs) h =
    let p = and_parts (nat_lt b 128) (list_all (λ b. nat_lt b 128) bs) h in
    rw (encode_ascii b (below b p.0), ascii_bytes bs p.1) refl

-- the bytes of an escape
pub escape_bytes : (c : ℕ) → is_control c ≡ true → encode_utf8_all (flat_map escape_char (c ∷ [])) ≡ escape c
escape_bytes c h =
    rw h (ap encode_utf8_all (append-nil (escape c)) ∙ ascii_bytes (escape c) (escape_all (λ b. nat_lt b 128) (λ d is. grind (arith, nat_tests)) refl refl c h))

-- ---- bytes

char_printed : (c : ℕ) → is_control c ≡ false → list_all is_printed (encode_utf8_all (c ∷ [])) ≡ true
unfolding encode
char_printed c h = grind (arith, nat_tests)

-- the bytes that a character is printed as
each_printed : (c : ℕ) → list_all is_printed (encode_utf8_all (flat_map escape_char (c ∷ []))) ≡ true
each_printed c = ⊎_elim
    (λ (h : is_control c ≡ true). rw (escape_bytes c h) (escape_all is_printed (λ d is. grind (arith, nat_tests)) refl refl c h))
    (λ (h : is_control c ≡ false). rw h (char_printed c h))
    (cases_Bool (is_control c))

chars_printed : (cs : List ℕ) → list_all is_printed (encode_utf8_all (flat_map escape_char cs)) ≡ true
chars_printed [] = refl
chars_printed (c ∷ cs) =
    rw (flat_map-cons, ← append-nil (escape_char c), encodes-append, list_all-append) (and_from _ _ (each_printed c) (chars_printed cs))

-- each byte of an escaped text is printed
pub escaped_printed : (text : List ℕ) → list_all is_printed (escaped_text text) ≡ true
escaped_printed text = chars_printed (chars text)

-- ---- texts without control characters

same_chars : (cs : List ℕ) → list_any is_control cs ≡ false → flat_map escape_char cs ≡ cs
same_chars [] h = refl
same_chars (c ∷ cs) h =
    let p = or_parts (is_control c) (list_any is_control cs) h in
    rw (flat_map-cons, p.0) (ap (λ rest. c ∷ rest) (same_chars cs p.1))

-- a text without control characters is printed as it is
pub escaped_plain : (text : List ℕ) → IsUtf8 text → list_any is_control (chars text) ≡ false → escaped_text text ≡ text
escaped_plain text u h = ap encode_utf8_all (same_chars (chars text) h) ∙ encodes-chars text u

-- ---- lines

-- a line is printed
line_printed : (text : List ℕ) → list_all is_printed (line_of text) ≡ true
unfolding line_of
line_printed text = rw (list_all-append is_printed (escaped_text text), escaped_printed text) refl

-- lines are printed
pub lines_printed : (lines : List (List ℕ)) → list_all is_printed (flat_map line_of lines) ≡ true
lines_printed [] = refl
lines_printed (line ∷ lines) =
    rw (flat_map-cons, list_all-append is_printed (line_of line), line_printed line) (lines_printed lines)

-- a list that is its own values, as many values as items, and the values of the first items
pub ruleset values = (map-id, length-map, take-map)
