-- The digits that are kept of a text, byte by byte.
use Rattle.std.proofs.Common.{◌≡◌, ℕ, zero, suc, ◌+◌, ◌<◌, Bool, true, false, List, [], ◌∷◌, ◌++◌, filter, length, get_or, take, refl, ap, ◌∙◌, arith}
use Rattle.std.proofs.Common.{append-nil, encode_utf8}
use Rattle.std.specs.Char.{is_ascii_hexdigit, to_ascii_lowercase}
use Rattle.std.proofs.lemmas.List.Elements.{filter_more}
use Rattle.std.proofs.lemmas.List.{length-map, map-append}
use Rattle.std.proofs.lemmas.Bool.Decides.{nat_tests}
use Rattle.std.proofs.lemmas.Str.{encode_ascii}
use Rattle.minidump_modules.specs.CodeId.{kept_digits}

hex_small : (b : ℕ) → is_ascii_hexdigit b ≡ true → b < 128
hex_small b h = grind (arith, nat_tests)

lower_small : (b : ℕ) → b < 128 → to_ascii_lowercase b < 128
lower_small b small = grind (arith, nat_tests)

pub kept_digit : (xs : List ℕ) (i : ℕ) (old new : List ℕ) (c : ℕ) → i < length xs → old ≡ kept_digits (take i xs) → is_ascii_hexdigit (get_or xs i 0) ≡ true
    → c ≡ to_ascii_lowercase (get_or xs i 0) → new ≡ old ++ encode_utf8 c → new ≡ kept_digits (take (i + 1) xs)
unfolding kept_digits
kept_digit xs i old new c lt before is same e =
    let one : encode_utf8 c ≡ c ∷ [] = encode_ascii c (rw same (lower_small (get_or xs i 0) (hex_small (get_or xs i 0) is))) in
    (e ∙ ap (λ l. old ++ l) one) ∙ rw (filter_more is_ascii_hexdigit xs i 0 lt, is, map-append to_ascii_lowercase, before, same) refl

pub kept_other : (xs : List ℕ) (i : ℕ) (old : List ℕ) → i < length xs → old ≡ kept_digits (take i xs) → is_ascii_hexdigit (get_or xs i 0) ≡ false
    → old ≡ kept_digits (take (i + 1) xs)
unfolding kept_digits
kept_other xs i old lt before is = before ∙ rw (filter_more is_ascii_hexdigit xs i 0 lt, is, append-nil) refl

-- where a byte passes a test, some are kept
front_kept : (p : ℕ → Bool) (x : ℕ) (xs : List ℕ) → p x ≡ true → 0 < length (filter p (x ∷ xs))
front_kept p x xs is = rw is (omega arith)

more_kept : (p : ℕ → Bool) (x : ℕ) (xs : List ℕ) (t : Bool) → p x ≡ t → 0 < length (filter p xs) → 0 < length (filter p (x ∷ xs))
more_kept p x xs true is more = rw is (omega arith)
more_kept p x xs false is more = rw is more

some_kept : (p : ℕ → Bool) (xs : List ℕ) (i : ℕ) → i < length xs → p (get_or xs i 0) ≡ true → 0 < length (filter p xs)
some_kept p [] i lt is = absurd (omega (arith, lt))
some_kept p (x ∷ xs) zero lt is = front_kept p x xs is
some_kept p (x ∷ xs) (suc i) lt is = more_kept p x xs (p x) refl (some_kept p xs i (omega (arith, lt)) is)

pub digit_kept : (xs : List ℕ) (i : ℕ) → i < length xs → is_ascii_hexdigit (get_or xs i 0) ≡ true → 0 < length (kept_digits xs)
unfolding kept_digits
digit_kept xs i lt is = rw (length-map (filter is_ascii_hexdigit xs) to_ascii_lowercase) (some_kept is_ascii_hexdigit xs i lt is)
