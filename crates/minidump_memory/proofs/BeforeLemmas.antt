-- What stands before the first byte of a kind: digits, and the letters of permissions.
use Rattle.std.proofs.Common.{◌≡◌, ◌≢◌, ℕ, zero, suc, ◌+◌, ◌*◌, ◌^◌, ◌<◌, ◌≤◌, false, List, [], ◌∷◌, ◌++◌, length, get_or, take, drop, Option}
use Rattle.std.proofs.Common.{Some, None, ap, arith, refl, sym, subst, ◌∙◌, take-append-drop}
use Rattle.std.specs.Prelude.{◌==◌}
use Rattle.std.specs.Char.{digit_value}
use Rattle.std.specs.List.{list_any}
use Rattle.std.specs.Str.Parse.{AllDigits, digits_value}
use Rattle.std.proofs.lemmas.Bool.{ne_eqb}
use Rattle.std.proofs.lemmas.List.{drop_more, take_all, take_more}
use Rattle.minidump_bytes.proofs.DigitLemmas.{narrow_large as digits_narrow_large, narrow_none as digits_narrow_none, narrow_some as digits_narrow_some}
use Rattle.minidump_bytes.proofs.DigitLemmas.{number_empty, number_none, number_past, number_some, number_spells, spelled_number}
use Rattle.minidump_bytes.specs.Digits.{IsNumber, number_of_digits}
use Rattle.minidump_bytes.specs.LinuxOsStr.{cut_first}
use Rattle.minidump_bytes.proofs.CutLemmas.{cut_is, given, is_cut, some_same}
use Rattle.minidump_bytes.specs.Cut.{IsCut, Lacks, and_then}
use Rattle.minidump_memory.specs.MapParts.{number_before}

-- ---- bytes that are lacking
lacks_push : (byte x : ℕ) (xs : List ℕ) → Lacks byte xs → x ≢ byte → Lacks byte (xs ++ x ∷ [])
lacks_push byte x [] h n = (n, tt)
lacks_push byte x (y ∷ ys) h n = (h.0, lacks_push byte x ys h.1 n)

pub lacks_more : (byte : ℕ) (xs : List ℕ) (i : ℕ) → i < length xs → Lacks byte (take i xs) → get_or xs i 0 ≢ byte → Lacks byte (take (i + 1) xs)
lacks_more byte xs i lt h n = rw (take_more xs i 0 lt) (lacks_push byte (get_or xs i 0) (take i xs) h n)

pub lacks_any : (byte : ℕ) (xs : List ℕ) → Lacks byte xs → list_any (λ b. b == byte) xs ≡ false
lacks_any byte [] h = refl
lacks_any byte (x ∷ xs) h = rw (ne_eqb x byte h.0) (lacks_any byte xs h.1)

pub lacks_back : (byte other : ℕ) (front back : List ℕ) → Lacks byte (front ++ other ∷ back) → Lacks byte back
lacks_back byte other [] back h = h.1
lacks_back byte other (x ∷ xs) back h = lacks_back byte other xs back h.1

pub lacks_between : (byte other : ℕ) (front back : List ℕ) → Lacks byte front → other ≢ byte → Lacks byte back → Lacks byte (front ++ other ∷ back)
lacks_between byte other [] back h n k = (n, k)
lacks_between byte other (x ∷ xs) back h n k = (h.0, lacks_between byte other xs back h.1 n k)

-- ---- cuts
-- where neither the bytes before an offset nor the one there are the byte, the offset lies in the front part
inside : (byte : ℕ) (front back : List ℕ) (i : ℕ) → Lacks byte (take i (front ++ byte ∷ back)) → get_or (front ++ byte ∷ back) i 0 ≢ byte
    → (i < length front) × (get_or front i 0 ≡ get_or (front ++ byte ∷ back) i 0) × (take i front ≡ take i (front ++ byte ∷ back))
inside byte [] back zero h n = absurd (n refl)
inside byte [] back (suc i) h n = absurd (h.0 refl)
inside byte (f ∷ fs) back zero h n = (omega arith, refl, refl)
inside byte (f ∷ fs) back (suc i) h n =
    let p = inside byte fs back i h.1 n in
    (omega (arith, p.0), p.1, ap (λ xs. f ∷ xs) p.2)

inside_cut : (byte : ℕ) (text front back : List ℕ) (i : ℕ) → IsCut byte text front back → Lacks byte (take i text) → get_or text i 0 ≢ byte
    → (i < length front) × (get_or front i 0 ≡ get_or text i 0) × (take i front ≡ take i text)
inside_cut byte text front back i cut h n = rw cut.joined (inside byte front back i (rw cut.joined at h) (rw cut.joined at n))

-- the parts at an offset
pub cut_here : (byte : ℕ) (text : List ℕ) (i : ℕ) → i < length text → Lacks byte (take i text) → get_or text i 0 ≡ byte
    → cut_first byte text ≡ Some (take i text, drop (i + 1) text)
cut_here byte text i lt h here =
    let back : drop i text ≡ byte ∷ drop (i + 1) text = drop_more text i 0 lt ∙ ap (λ b. b ∷ drop (i + 1) text) here in
    is_cut byte text (take i text) (drop (i + 1) text) (record {
      joined = sym (take-append-drop i text) ∙ ap (λ xs. take i text ++ xs) back;
      lacks = h;
    })

pub no_cut : (byte : ℕ) (text : List ℕ) (i : ℕ) → length text ≤ i → Lacks byte (take i text) → cut_first byte text ≡ None
no_cut byte text i end h = rw (lacks_any byte text (rw (take_all i text end) at h)) refl

-- ---- numbers
none_by : (base bits byte : ℕ) (text : List ℕ) (o : Option (List ℕ × List ℕ)) → cut_first byte text ≡ o
    → ((front back : List ℕ) → IsCut byte text front back → number_of_digits base bits front ≡ None) → number_before base bits byte text ≡ None
none_by base bits byte text None e h = rw e refl
none_by base bits byte text (Some (front, back)) e h = rw (e, h front back (cut_is byte text front back e)) refl

module _ (base byte : ℕ) (text : List ℕ) (i : ℕ) (lacks : Lacks byte (take i text)) where
  pub before_empty : i < length text → get_or text i 0 ≡ byte → i ≡ 0 → number_before base 64 byte text ≡ None
  before_empty lt here first =
      let none : number_of_digits base 64 (take i text) ≡ None = number_empty base 64 (take i text) (rw first refl) in
      rw (cut_here byte text i lt lacks here, none) refl

  pub before_found : (value : ℕ) → i < length text → get_or text i 0 ≡ byte → 0 < i → AllDigits base (take i text)
      → value ≡ digits_value base (take i text) → value < 2 ^ 64 → number_before base 64 byte text ≡ Some (value, drop (i + 1) text)
  before_found value lt here some digits is fits =
      let long : 0 < length (take i text) = grind (arith, lt, some) in
      let number : number_of_digits base 64 (take i text) ≡ Some value =
      number_some base 64 (take i text) long digits (rw is at fits) ∙ ap Some (sym is) in
      rw (cut_here byte text i lt lacks here, number) refl

  pub before_no_digit : get_or text i 0 ≢ byte → base ≤ digit_value (get_or text i 0) → number_before base 64 byte text ≡ None
  before_no_digit n large =
      none_by base 64 byte text (cut_first byte text) refl (λ front back cut.
      let p = inside_cut byte text front back i cut lacks n in number_none base 64 front i p.0 (rw p.1 large))

  pub before_past : (value digit : ℕ) → 1 ≤ base → get_or text i 0 ≢ byte → value ≡ digits_value base (take i text) → digit ≡ digit_value (get_or text i 0)
      → 2 ^ 64 ≤ value * base + digit → number_before base 64 byte text ≡ None
  before_past value digit pos n so_far is large =
      none_by base 64 byte text (cut_first byte text) refl (λ front back cut.
      let p = inside_cut byte text front back i cut lacks n in
      number_past base front i value digit pos p.0 (rw p.2 so_far) (rw p.1 is) large)

  pub before_end : length text ≤ i → number_before base 64 byte text ≡ None
  before_end end = rw (no_cut byte text i end lacks) refl

-- ---- the number and the relation
pub number_is_before : (base bits byte : ℕ) (text front back : List ℕ) (n : ℕ) → IsCut byte text front back → IsNumber base bits front n
    → number_before base bits byte text ≡ Some (n, back)
number_is_before base bits byte text front back n cut number = rw (is_cut byte text front back cut, spelled_number base bits front n number) refl

pub record Before (base bits byte : ℕ) (text : List ℕ) (n : ℕ) (rest : List ℕ) : Type 0 where
  pub front : List ℕ
  pub cut : IsCut byte text front rest
  pub number : IsNumber base bits front n

pub before_is : (base bits byte : ℕ) (text : List ℕ) (p : ℕ × List ℕ) → number_before base bits byte text ≡ Some p → Before base bits byte text p.0 p.1
before_is base bits byte text p h =
    let cut = given (cut_first byte text) _ p h in
    let number = given (number_of_digits base bits cut.0.0) _ p cut.2 in
    let same : (number.0, cut.0.1) ≡ p = some_same {A = ℕ × List ℕ} (number.0, cut.0.1) p number.2 in
    rw (← same) (record {
      front = cut.0.0;
      cut = cut_is byte text cut.0.0 cut.0.1 cut.1;
      number = number_spells base bits cut.0.0 number.0 number.1;
    })

-- digits of a base are none of the bytes that are no digits of it
pub digits_lack : (base byte : ℕ) (ds : List ℕ) → base ≤ digit_value byte → AllDigits base ds → Lacks byte ds
digits_lack base byte [] large h = tt
digits_lack base byte (d ∷ ds) large h =
    ((λ e. let lt : digit_value byte < base = subst (λ x. digit_value x < base) e h.0 in absurd (omega (arith, lt, large))), digits_lack base byte ds large h.1)

-- ---- a number of 64 bits as one of 32 bits
abbrev narrowed : ℕ → ℕ → Option (List ℕ × List ℕ) → Option (ℕ × List ℕ)
narrowed base bits cut = and_then cut (λ p. and_then (number_of_digits base bits p.0) (λ n. Some (n, p.1)))

pair_is : (p q : ℕ × List ℕ) → Some p ≡ Some q → (p.0 ≡ q.0) × (p.1 ≡ q.1)
pair_is p q h = let e = some_same p q h in (ap (λ r. r.0) e, ap (λ r. r.1) e)

abbrev with_rest : List ℕ → ℕ → Option (ℕ × List ℕ)
with_rest back n = Some (n, back)

none_none : (base : ℕ) (front back : List ℕ) (o : Option ℕ) → number_of_digits base 64 front ≡ o → and_then o (with_rest back) ≡ None
    → number_of_digits base 32 front ≡ None
none_none base front back None is h = digits_narrow_none base front is
none_none base front back (Some n) is h = absurd (let k : with_rest back n ≡ None = h in cc)

narrow_none_by : (base : ℕ) (cut : Option (List ℕ × List ℕ)) → narrowed base 64 cut ≡ None → narrowed base 32 cut ≡ None
narrow_none_by base None h = refl
narrow_none_by base (Some (front, back)) h = rw (none_none base front back (number_of_digits base 64 front) refl h) refl

pub narrow_none : (base byte : ℕ) (text : List ℕ) → number_before base 64 byte text ≡ None → number_before base 32 byte text ≡ None
narrow_none base byte text h = narrow_none_by base (cut_first byte text) h

narrow_some_by : (base : ℕ) (cut : Option (List ℕ × List ℕ)) (n : ℕ) (rest : List ℕ) → narrowed base 64 cut ≡ Some (n, rest)
    → (n < 2 ^ 32 → narrowed base 32 cut ≡ Some (n, rest)) × (2 ^ 32 ≤ n → narrowed base 32 cut ≡ None)
narrow_some_by base None n rest h = absurd (let k : None ≡ Some (n, rest) = h in cc)
narrow_some_by base (Some (front, back)) n rest h =
    let number = given (number_of_digits base 64 front) _ (n, rest) h in
    let same = pair_is (number.0, back) (n, rest) number.2 in
    let is : number_of_digits base 64 front ≡ Some n = number.1 ∙ ap Some same.0 in
    ((λ small. rw (digits_narrow_some base front n is small, same.1) refl), (λ large. rw (digits_narrow_large base front n is large) refl))

pub narrow_some : (base byte : ℕ) (text : List ℕ) (n : ℕ) (rest : List ℕ) → number_before base 64 byte text ≡ Some (n, rest) → n < 2 ^ 32
    → number_before base 32 byte text ≡ Some (n, rest)
narrow_some base byte text n rest h small = (narrow_some_by base (cut_first byte text) n rest h).0 small

pub narrow_large : (base byte : ℕ) (text : List ℕ) (n : ℕ) (rest : List ℕ) → number_before base 64 byte text ≡ Some (n, rest) → 2 ^ 32 ≤ n
    → number_before base 32 byte text ≡ None
narrow_large base byte text n rest h large = (narrow_some_by base (cut_first byte text) n rest h).1 large
