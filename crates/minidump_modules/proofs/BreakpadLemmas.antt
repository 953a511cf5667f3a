-- Breakpad's identifiers by their two parts, and that what is written is read back.
use Rattle.std.proofs.Common.{◌≡◌, ℕ, zero, suc, ◌/◌, ◌%◌, ◌^◌, ◌<◌, ◌≤◌, Bool, true, false, ◌&&◌, List, [], ◌∷◌, ◌++◌, length, length-append}
use Rattle.std.proofs.Common.{Option, Some, None, Result, Ok, Err, All, refl, sym, ap, subst, ◌∙◌, inl, inr, arith, take, drop, true≢false}
use Rattle.std.specs.Prelude.{nat_le, if◌then◌else◌, IsOk, IfOk, ◌↔◌}
use Rattle.std.specs.Result.{result_ok}
use Rattle.std.specs.Char.{digit_value}
use Rattle.std.specs.Fmt.{digits, digit_glyph}
use Rattle.std.specs.Str.Parse.{AllDigits, digits_value}
use Rattle.std.proofs.Math.Seq.{drop-append_seam, take-append_seam}
use Rattle.std.proofs.lemmas.Bool.{cases_lt, le-leb}
use Rattle.std.proofs.lemmas.Bool.Decides.{nat_tests}
use Rattle.std.proofs.lemmas.Int.Digits.{digits_push, digits_value_push}
use Rattle.uuid.specs.Text.{upper}
use Rattle.uuid.proofs.RoundTrips.{parses_simple_text}
use Rattle.uuid.proofs.TextLemmas.{by_index_length}
use Rattle.minidump_bytes.specs.Digits.{number_of_digits}
use Rattle.minidump_bytes.proofs.DigitLemmas.{number_some}
use Rattle.minidump_bytes.proofs.HexLemmas.{hex_one, hex_step}
use Rattle.minidump_modules.specs.DebugId.{breakpad_digits, breakpad_text, by_guid, from_breakpad, sixteen_bytes}

pub parsed_ok : {U E : Type 0} (r : Result U E) (o : Option U) → (IsOk r ↔ ((u : U) × (o ≡ Some u))) → IfOk r (λ u. Some u ≡ o) → result_ok r ≡ o
parsed_ok (Ok u) o ok bytes = bytes
parsed_ok (Err e) None ok bytes = refl
parsed_ok (Err e) (Some u) ok bytes = absurd (true≢false (sym (ok.1 (u, refl))))

either : {X : Type 0} (b : Bool) → ◌≡◌ {A = Option X} (if b then None else None) None
either true = refl
either false = refl

pub breakpad_some : (text : List ℕ) (uuid : List ℕ) (n : ℕ) → 33 ≤ length text → length text ≤ 40 → sixteen_bytes (take 32 text) ≡ Some uuid
    → number_of_digits 16 32 (drop 32 text) ≡ Some n
    → from_breakpad text ≡ Some (by_guid uuid n)
breakpad_some text uuid n low high one two = rw (le-leb 33 (length text) low, le-leb (length text) 40 high, one, two) refl

pub breakpad_none : (text : List ℕ) (uuid : List ℕ) → sixteen_bytes (take 32 text) ≡ Some uuid → number_of_digits 16 32 (drop 32 text) ≡ None
    → from_breakpad text ≡ None
breakpad_none text uuid one two = rw (one, two) (either (nat_le 33 (length text) && nat_le (length text) 40))

-- ---- what is written is read back
-- at least one digit and at most so many, whose value is the number
abbrev Spells : ℕ → ℕ → List ℕ → Type 0
Spells most n ds = (0 < length ds) × (length ds ≤ most) × AllDigits 16 ds × (digits_value 16 ds ≡ n)

glyph_value : (d : ℕ) → d < 16 → digit_value (digit_glyph false d) ≡ d
glyph_value d h = grind (arith, nat_tests)

spells_one : (k n : ℕ) → n < 16 → Spells (suc k) n (digits 16 false n)
spells_one k n h = rw (hex_one n h) (let v = glyph_value n h in
    (omega arith, omega arith, digits_push 16 [] (digit_glyph false n) tt (omega (arith, v, h)), digits_value_push 16 [] (digit_glyph false n) ∙ omega (arith, v)))

-- a digit more
spells_next : (most n : ℕ) (front : List ℕ) → Spells most (n / 16) front → Spells (suc most) n (front ++ digit_glyph false (n % 16) ∷ [])
spells_next most n front s =
    let v = glyph_value (n % 16) (omega arith) in
    let long = length-append front (digit_glyph false (n % 16) ∷ []) in (
      omega (arith, long),
      omega (arith, long, s.1),
      digits_push 16 front (digit_glyph false (n % 16)) s.2 (omega (arith, v)),
      digits_value_push 16 front (digit_glyph false (n % 16)) ∙ omega (arith, v, s.3),
    )

spells : (k n : ℕ) → n < 16 ^ suc k → n < 2 ^ 64 → Spells (suc k) n (digits 16 false n)
spells zero n h small = spells_one zero n (omega (arith, h))
spells (suc k) n h small = elim (cases_lt n 16) [
  | inl l ↦ spells_one (suc k) n l
  | inr l ↦ rw (hex_step n l (omega (arith, small))) (spells_next (suc k) n (digits 16 false (n / 16)) (spells k (n / 16) (omega (arith, h)) (omega (arith, small))))
]

two_parts : (head tail uuid : List ℕ) (n : ℕ) → length head ≡ 32 → sixteen_bytes head ≡ Some uuid → n < 2 ^ 32 → Spells 8 n tail
    → from_breakpad (head ++ tail) ≡ Some (by_guid uuid n)
two_parts head tail uuid n long is small s =
    let all = length-append head tail in
    let front : take 32 (head ++ tail) ≡ head = ap (λ k. take k (head ++ tail)) (sym long) ∙ take-append_seam head tail in
    let back : drop 32 (head ++ tail) ≡ tail = ap (λ k. drop k (head ++ tail)) (sym long) ∙ drop-append_seam head tail in
    let fits : digits_value 16 tail < 2 ^ 32 = subst (λ v. v < 2 ^ 32) (sym s.3) small in
    breakpad_some (head ++ tail) uuid n (omega (arith, all, long, s.0)) (omega (arith, all, long, s.1)) (ap sixteen_bytes front ∙ is)
    (ap (number_of_digits 16 32) back ∙ number_some 16 32 tail s.0 s.2 fits ∙ ap (λ v. Some v) s.3)

pub reads_back : (bytes : List ℕ) (appendix : ℕ) → length bytes ≡ 16 → All (λ b. b < 256) bytes → appendix < 2 ^ 32
    → from_breakpad (breakpad_text (by_guid bytes appendix)) ≡ Some (by_guid bytes appendix)
unfolding sixteen_bytes breakpad_digits
reads_back bytes appendix sixteen small fits =
    two_parts (breakpad_digits bytes) (digits 16 false appendix) bytes appendix (by_index_length 32 _)
    (sym (parses_simple_text upper bytes (inr refl) sixteen small)) fits (spells 7 appendix fits (omega (arith, fits)))
