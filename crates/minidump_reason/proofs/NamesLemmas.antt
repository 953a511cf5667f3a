-- The lists of names as they are lent: when they are valid, and what is found in them.
use Rattle.std.proofs.Common.{rules, ◌≡◌, ◌≢◌, ℕ, zero, suc, ◌+◌, ◌-◌, ◌<◌, ◌≤◌, true, false, List, [], ◌∷◌, length, get_or, take, Some, None}
use Rattle.std.proofs.Common.{Result, Ok, Err, refl, sym, ap, subst, ◌∙◌, inl, inr, arith, if◌then◌else◌, All}
use Rattle.std.specs.Borrow.{Bor}
use Rattle.std.specs.List.{list_any}
use Rattle.std.specs.List.Sorted.{IsSearchInRange, IsBinarySearchResult, IsNonDecreasingBy}
use Rattle.std.specs.Ordering.{nat_cmp, ordering_index}
use Rattle.std.specs.Result.{MatchResult}
use Rattle.std.proofs.lemmas.Bool.{cases_lt}
use Rattle.std.proofs.lemmas.Bool.Decides.{nat_tests}
use Rattle.std.proofs.lemmas.Cmp.{ranked}
use Rattle.std.proofs.lemmas.List.{get_or_default, take_more}
use Rattle.std.proofs.lemmas.List.Elements.{All-more}
use Rattle.std.proofs.lemmas.List.Folds.{Any-from_list_any, list_any_at}
use Rattle.std.proofs.lemmas.List.Quantifiers.{all_pairs_push}
use borrow.Author.Tests.{eq-eqb, ne_eqb}
use denote.Enum.Bare.{same_true, true_same}
use mathlib.Core.Bool.{false≢true}
use Rattle.minidump_reason.specs.contracts.family.CodeFamily.{the_type}
use Rattle.minidump_reason.specs.declared.family.CodeFamily.{CodeFamily}
use Rattle.minidump_reason.specs.Names.{LentEntries, LentLists, IsAscending, AreCodeNames, HasFamily, entries_of, is_family, name_in}

-- ---- numbers that ascend

abbrev pub LentEntry : Type 0
LentEntry = ℕ × Bor (List ℕ)

-- the numbers before an index ascend
abbrev pub AscendsBefore : LentEntries → ℕ → Type 0
AscendsBefore xs i = (j k : ℕ) (d : LentEntry) → j < k → k < i → (get_or xs j d).0 < (get_or xs k d).0

-- and one more does
pub ascends_more : (xs : LentEntries) (i : ℕ) (e f : LentEntry) → 0 < i → i < length xs → AscendsBefore xs i
    → (get_or xs (i - 1) e).0 < (get_or xs i f).0 → AscendsBefore xs (i + 1)
ascends_more xs i e f some within before step j k d lt below =
    let key = λ (x : LentEntry). x.0 in
    let last : (get_or xs (i - 1) d).0 ≡ (get_or xs (i - 1) e).0 = ap key (get_or_default xs (i - 1) d e (omega arith)) in
    let next : (get_or xs i d).0 ≡ (get_or xs i f).0 = ap key (get_or_default xs i d f within) in
    elim (cases_lt k i) [
      | inl early ↦ before j k d lt early
      | inr late ↦
          (let here : i ≡ k = omega arith in
          let reach : (get_or xs j d).0 < (get_or xs i d).0 =
          elim (cases_lt j (i - 1)) [
            | inl far ↦ (let chain = before j (i - 1) d far (omega arith) in omega (arith, chain))
            | inr near ↦ (let same : i - 1 ≡ j = omega arith in subst (λ (n : ℕ). (get_or xs n d).0 < (get_or xs i d).0) same (omega arith))
          ] in
          subst (λ (n : ℕ). (get_or xs j d).0 < (get_or xs n d).0) here reach)
    ]

-- ---- the name beside a number

pub name_at : (xs : LentEntries) (index number : ℕ) (d : LentEntry) → IsAscending xs → index < length xs → (get_or xs index d).0 ≡ number
    → name_in (entries_of xs) number ≡ Some (get_or xs index d).1.now
name_at [] index number d up within has = absurd (omega (arith, within))
name_at (x ∷ xs) zero number d up within has = ap (λ t. if t then Some x.1.now else name_in (entries_of xs) number) (eq-eqb x.0 number has)
name_at (x ∷ xs) (suc k) number d up within has =
    let below = up 0 (suc k) d (omega arith) within in
    let tail : IsAscending xs = λ i j e lt h. up (suc i) (suc j) e (omega arith) (omega arith) in
    ap (λ t. if t then Some x.1.now else name_in (entries_of xs) number) (ne_eqb x.0 number (λ same. omega (arith, below, has)))
    ∙ name_at xs k number d tail (omega arith) has

pub name_absent : (xs : LentEntries) (number : ℕ) → ((k : ℕ) (d : LentEntry) → k < length xs → (get_or xs k d).0 ≢ number)
    → name_in (entries_of xs) number ≡ None
name_absent [] number none = refl
name_absent (x ∷ xs) number none =
    ap (λ t. if t then Some x.1.now else name_in (entries_of xs) number) (ne_eqb x.0 number (none 0 x (omega arith)))
    ∙ name_absent xs number (λ k d h. none (suc k) d (omega arith))

-- what a binary search for a number finds
pub record Found (xs : LentEntries) (number at : ℕ) : Type 0 where
  pub within : at < length xs
  pub has : (d : LentEntry) → (get_or xs at d).0 ≡ number

module _ (xs : LentEntries) (up : IsAscending xs) (number : ℕ) where
  comparisons_rise : IsNonDecreasingBy (λ e. ordering_index (nat_cmp e.0 number)) xs
  comparisons_rise i j d le within =
      let keys_rise : (get_or xs i d).0 ≤ (get_or xs j d).0 =
      elim (cases_lt i j) [
        | inl lt ↦ (let step = up i j d lt within in omega (arith, step))
        | inr ge ↦ (let same : i ≡ j = omega arith in subst (λ (n : ℕ). (get_or xs i d).0 ≤ (get_or xs n d).0) same (omega arith))
      ] in
      grind (arith, nat_tests)

  pub search_result : (r : Result ℕ ℕ) → IsSearchInRange r (length xs) → IsBinarySearchResult (λ e. nat_cmp e.0 number) xs r
      → MatchResult r (λ at. Found xs number at) (λ gap. name_in (entries_of xs) number ≡ None)
  search_result (Ok at) within equal = record { within = within; has = λ d. ranked _ number _ (sym (equal d)) }
  search_result (Err at) within parted = name_absent xs number (λ k d h same. elim (cases_lt k at) [
    | inl before ↦ (let less = ranked _ number _ (sym ((parted comparisons_rise).0 k d (omega arith) before)) in omega (arith, less, same))
    | inr after ↦ (let more = ranked _ number _ (sym ((parted comparisons_rise).1 k d after h)) in omega (arith, more, same))
  ])

-- ---- families

pub family_there : (xs : LentLists) (family : CodeFamily) → list_any (λ list. is_family list.0 family) xs ≡ true → HasFamily xs family
family_there xs family any =
    let there = Any-from_list_any (λ list. is_family list.0 family) xs any in
    (there.0, there.1, there.2, there.3, same_true the_type (search rules) _ _ there.4)

pub family_absent : (xs : LentLists) (family : CodeFamily) → list_any (λ list. is_family list.0 family) xs ≡ false → All (λ list. list.0 ≢ family) xs
family_absent xs family clear k d within same =
    absurd (false≢true (sym clear ∙ list_any_at (λ list. is_family list.0 family) xs k d within (true_same the_type _ _ same)))

pub family_missing : (xs : LentLists) (family : CodeFamily) → list_any (λ list. is_family list.0 family) xs ≡ false → ¬ (HasFamily xs family)
family_missing xs family clear (k, list, within, there, same) = family_absent xs family clear k list within (ap (λ l. l.0) there ∙ same)

-- one more list after valid ones
pub names_more : (xs : LentLists) (i : ℕ) (d : CodeFamily × Bor LentEntries) → i < length xs → AreCodeNames (take i xs)
    → All (λ list. list.0 ≢ (get_or xs i d).0) (take i xs)
    → IsAscending (get_or xs i d).1.now → AreCodeNames (take (i + 1) xs)
names_more xs i d within before apart up = record {
  ascending = All-more (λ list. IsAscending list.1.now) xs i d within before.ascending up;
  apart = rw (take_more xs i d within) (all_pairs_push (λ a b. a.0 ≢ b.0) (take i xs) (get_or xs i d) before.apart apart);
}
