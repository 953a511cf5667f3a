-- An embedded text has no byte that begins or ends a tag, or begins a reference.
use Rattle.std.proofs.Common.{◌≡◌, ℕ, Bool, true, List, [], ◌∷◌, refl, arith, chars, encode_utf8_all}
use Rattle.std.proofs.lemmas.Bool.{and_from, and_parts}
use Rattle.std.proofs.lemmas.Bool.Decides.{nat_tests}
use Rattle.std.proofs.lemmas.List.Concat.{flat_map-cons}
use Rattle.std.proofs.lemmas.List.Folds.{list_all-append}
use Rattle.std.specs.List.{flat_map, list_all}
use lib.Utf8.{encode}
use Rattle.crash_html.specs.Page.{embedded_json, embedded_char, is_inert}

char_inert : (c : ℕ) → list_all is_inert (embedded_char c) ≡ true
char_inert c = grind (arith, nat_tests)

text_inert : (cs : List ℕ) → list_all is_inert (flat_map embedded_char cs) ≡ true
text_inert [] = refl
text_inert (c ∷ cs) = rw (flat_map-cons, list_all-append) (and_from _ _ (char_inert c) (text_inert cs))

char_bytes : (c : ℕ) → is_inert c ≡ true → list_all is_inert (encode c) ≡ true
unfolding encode
char_bytes c h = grind (arith, nat_tests)

chars_bytes : (cs : List ℕ) → list_all is_inert cs ≡ true → list_all is_inert (encode_utf8_all cs) ≡ true
chars_bytes [] h = refl
chars_bytes (c ∷ cs) h =
    let p = and_parts (is_inert c) (list_all is_inert cs) h in
    rw list_all-append (and_from _ _ (char_bytes c p.0) (chars_bytes cs p.1))

-- each byte of an embedded text is inert
pub embedded_inert : (json : List ℕ) → list_all is_inert (embedded_json json) ≡ true
embedded_inert json = chars_bytes (flat_map embedded_char (chars json)) (text_inert (chars json))
