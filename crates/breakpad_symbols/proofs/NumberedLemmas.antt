-- The first record of a number.
use Rattle.std.proofs.Common.{◌≡◌, ◌<◌, ◌≤◌, ◌+◌, ◌∙◌, ℕ, Bool, true, false, List, [], ◌∷◌, ◌++◌, get_or, length, take, map, Option, Some}
use Rattle.std.proofs.Common.{None, refl, ap, sym, inl, inr, subst, arith}
use Rattle.std.specs.Prelude.{◌==◌, cond, if◌then◌else◌, IsSome}
use Rattle.std.specs.BTreeMap.{BTreeMap, get}
use Rattle.std.specs.Cmp.{nat_cmp_is}
use Rattle.std.specs.List.{find}
use Rattle.std.specs.Option.{option_map, option_or}
use Rattle.std.specs.Ordering.{nat_cmp, is_gt, is_lt}
use Rattle.std.specs.declared.cmp.Ordering.TheVariants.{Less, Equal, Greater}
use Rattle.std.proofs.lemmas.Bool.{cases_lt, eqb-true}
use Rattle.std.proofs.lemmas.List.{take_more}
use Rattle.std.proofs.lemmas.List.Folds.{find-append}
use Rattle.minidump_bytes.specs.LinuxOsStr.{text_of}
use Rattle.breakpad_symbols.specs.declared.numbered_name.NumberedName.{NumberedName}
use Rattle.breakpad_symbols.specs.Numbered.{HasFirsts, IsNearestNumber, first_numbered}
use Rattle.breakpad_symbols.specs.NumberedName.{name_of}
use Rattle.breakpad_symbols.specs.SymbolFile.{name_in}
use Rattle.minidump_bytes.proofs.CutLemmas.{some_same}

-- what is found among mapped values
pub find-map : {A B : Type 0} (f : A → B) (p : B → Bool) (xs : List A) → find p (map f xs) ≡ option_map f (find (λ x. p (f x)) xs)
find-map f p [] = refl
find-map f p (x ∷ xs) = by (p (f x)) (find-map f p xs)
  where
    by : (t : Bool) → find p (map f xs) ≡ option_map f (find (λ y. p (f y)) xs)
        → cond t (Some (f x)) (find p (map f xs)) ≡ option_map f (cond t (Some x) (find (λ y. p (f y)) xs))
    by true more = refl
    by false more = more

pub name_found : (names : List NumberedName) (number : ℕ)
    → name_in (map name_of names) number ≡ option_map (λ n. text_of n.name) (first_numbered (λ n. n.number) number names)
name_found names number = go (find (λ n. n.number == number) names) (find-map name_of (λ n. n.number == number) names)
  where
    go : (o : Option NumberedName) → find (λ n. n.number == number) (map name_of names) ≡ option_map name_of o
        → name_in (map name_of names) number ≡ option_map (λ n. text_of n.name) o
    go None e = rw e refl
    go (Some n) e = rw e refl

-- one record more is found where none before it is
pub first_more : {R : Type 0} (number_of : R → ℕ) (number : ℕ) (done : List R) (next : R)
    → first_numbered number_of number (done ++ next ∷ [])
    ≡ option_or (first_numbered number_of number done) (if number_of next == number then Some next else None)
first_more number_of number done next = find-append (λ r. number_of r == number) done (next ∷ [])

-- the same for the first records of a list
pub first_step : {R : Type 0} (number_of : R → ℕ) (number : ℕ) (xs : List R) (i : ℕ) (x : R) → i < length xs → x ≡ get_or xs i x
    → first_numbered number_of number (take (i + 1) xs)
    ≡ option_or (first_numbered number_of number (take i xs)) (if number_of x == number then Some x else None)
first_step number_of number xs i x h is =
    ap (first_numbered number_of number) (take_more xs i x h) ∙ first_more number_of number (take i xs) (get_or xs i x)
    ∙ ap (λ y. option_or (first_numbered number_of number (take i xs)) (if number_of y == number then Some y else None)) (sym is)

-- what is found has the number
pub found_has : {R : Type 0} (number_of : R → ℕ) (xs : List R) (q : ℕ) (r : R) → first_numbered number_of q xs ≡ Some r → number_of r ≡ q
found_has number_of [] q r h = absurd (let k : None ≡ Some r = h in cc)
found_has {R} number_of (x ∷ xs) q r h = by (number_of x == q) refl h (found_has number_of xs q r)
  where
    by : (t : Bool) → (number_of x == q) ≡ t → cond t (Some x) (first_numbered number_of q xs) ≡ Some r
        → (first_numbered number_of q xs ≡ Some r → number_of r ≡ q) → number_of r ≡ q
    by true is k more = let same : x ≡ r = some_same x r k in rw (← same) (eqb-true _ _ is)
    by false is k more = more k

-- ---- the greatest number that isn't above another
pub not_above : (a b : ℕ) → is_gt (nat_cmp a b) ≡ false → a ≤ b
not_above a b h = elim (cases_lt b a) [
  | inl lt ↦ absurd (let k : true ≡ false = ap is_gt (nat_cmp_is a b Greater lt) ∙ h in cc)
  | inr le ↦ le
]

pub not_below : (a b : ℕ) → is_lt (nat_cmp a b) ≡ false → b ≤ a
not_below a b h = elim (cases_lt a b) [
  | inl lt ↦ absurd (let k : true ≡ false = ap is_lt (nat_cmp_is a b Less lt) ∙ h in cc)
  | inr le ↦ le
]

pub at_most : (a b : ℕ) → a ≤ b → is_gt (nat_cmp a b) ≡ false
at_most a b h = elim (cases_lt a b) [
  | inl lt ↦ sym (ap is_gt (nat_cmp_is a b Less lt))
  | inr le ↦ let same : a ≡ b = omega (arith, h, le) in sym (ap is_gt (nat_cmp_is a b Equal same))
]

pub nearest_is : {R : Type 0} (number_of : R → ℕ) (records : List R) (firsts : BTreeMap ℕ R) (number k : ℕ) (r : R) → HasFirsts number_of records firsts
    → k ≤ number → get nat_cmp firsts k ≡ Some r → ((q : ℕ) → q ≤ number → IsSome (get nat_cmp firsts q) → q ≤ k)
    → IsNearestNumber number_of records number r
nearest_is number_of records firsts number k r has below there greatest =
    let found : first_numbered number_of k records ≡ Some r = sym (has k) ∙ there in
    let is : number_of r ≡ k = found_has number_of records k r found in
    record {
      first = rw is found;
      below = omega (arith, is, below);
      closest = λ q low some. let least = greatest q low (subst IsSome (sym (has q)) some) in omega (arith, least, is);
    }
