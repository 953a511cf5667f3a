-- The deciding entries of a directory: the last of each type, sorted by type.
use Rattle.std.proofs.Common.{◌≡◌, ◌≢◌, ℕ, zero, suc, ◌+◌, ◌^◌, ◌<◌, ◌≤◌, cond, true, false, List, [], ◌∷◌, ◌++◌, length, map, drop, get_or, take, set}
use Rattle.std.proofs.Common.{Some, None, refl, sym, ap, ◌∙◌, inl, inr, subst, arith, All}
use Rattle.std.specs.Prelude.{◌==◌, Bool, Option, Result, Ok, Err, find, filter, reverse, MatchResult}
use Rattle.std.specs.List.{AllByRecursion, enumerate_from}
use Rattle.std.specs.List.Sorted.{IsBinarySearchResult, IsNonDecreasingBy, IsSearchInRange, IsStableByKey, IsStrictlySortedBy, ties}
use Rattle.std.specs.Map.{keys_of, lookup, values_of}
use Rattle.std.specs.Option.{option_or}
use Rattle.std.specs.Ordering.{is_lt, nat_cmp, ordering_index}
use Rattle.std.specs.BTreeMap.{is_at}
use Rattle.std.specs.Cmp.{nat_cmp_is}
use Rattle.std.specs.declared.cmp.Ordering.TheVariants.{Less}
use Rattle.std.proofs.lemmas.Bool.{cases_eq, cases_lt, eq-eqb, ne_eqb}
use Rattle.std.proofs.lemmas.Bool.Decides.{nat_tests}
use Rattle.std.proofs.lemmas.Cmp.{ranked}
use Rattle.std.proofs.lemmas.List.{append-nil, append_assoc, drop-drop, drop_all, drop_more, length-map, map-append, reverse-append, take_more_set}
use Rattle.std.proofs.lemmas.List.Folds.{find-append}
use Rattle.std.proofs.lemmas.List.FromFn.{length-enumerate_from}
use Rattle.minidump_format.specs.declared.format.header.MINIDUMP_DIRECTORY.{MINIDUMP_DIRECTORY}
use Rattle.minidump_bytes.proofs.ListLemmas.{enumerate_from-append}
use Rattle.minidump_bytes.proofs.KeyLemmas.{lookup_number, values_by_key}
use Rattle.minidump.specs.declared.directory.DecidingEntry.{DecidingEntry}
use Rattle.minidump.specs.Directory.{with_indices, deciding_entry, deciding_entries_below}
use Rattle.minidump.specs.Deciding.{AreLast, Decides, ends_a_type, is_of_type, type_of}

-- ---- the entries by index

abbrev at_index : ℕ × MINIDUMP_DIRECTORY → DecidingEntry
at_index p = record { index = p.0; entry = p.1 }

-- one entry more, whose index is how many there were
pub with_indices-more : (es : List MINIDUMP_DIRECTORY) (e : MINIDUMP_DIRECTORY) → with_indices (es ++ e ∷ []) ≡ with_indices es ++ record { index = length es; entry = e } ∷ []
with_indices-more es e =
    ap (map at_index) (enumerate_from-append 0 es (e ∷ []))
    ∙ map-append at_index (enumerate_from 0 es) (enumerate_from (0 + length es) (e ∷ []))
    ∙ ap (λ k. with_indices es ++ record { index = k; entry = e } ∷ []) (omega arith)

pub length-with_indices : (es : List MINIDUMP_DIRECTORY) → length (with_indices es) ≡ length es
length-with_indices es = length-map (enumerate_from 0 es) at_index ∙ length-enumerate_from 0 es

-- it decides its own type, and no other
pub deciding_entry-more : (stream_type : ℕ) (es : List MINIDUMP_DIRECTORY) (e : MINIDUMP_DIRECTORY)
    → deciding_entry stream_type (es ++ e ∷ []) ≡ cond (e.stream_type == stream_type) (Some (record { index = length es; entry = e })) (deciding_entry stream_type es)
deciding_entry-more stream_type es e = rw (with_indices-more es e, reverse-append (with_indices es) (record { index = length es; entry = e } ∷ [])) refl

-- only among some entries one decides
pub deciding_entry-among_some : (stream_type : ℕ) (es : List MINIDUMP_DIRECTORY) (d : DecidingEntry) → deciding_entry stream_type es ≡ Some d → 0 < length es
deciding_entry-among_some stream_type [] d found = cc
deciding_entry-among_some stream_type (e ∷ es) d found = omega arith

-- ---- what is found of a type

-- the entries of a type, in their order
abbrev of_type : ℕ → List DecidingEntry → List DecidingEntry
of_type t ds = filter (is_of_type t) ds

reverse-more : (d : DecidingEntry) (ds : List DecidingEntry) → reverse (d ∷ ds) ≡ reverse ds ++ d ∷ []
reverse-more d ds = reverse-append (d ∷ []) ds

find_none : (t : ℕ) (ds : List DecidingEntry) → ((k : ℕ) (o : DecidingEntry) → k < length ds → type_of (get_or ds k o) ≢ t) → find (is_of_type t) ds ≡ None
find_none t [] other = refl
find_none t (d ∷ ds) other = rw (ne_eqb (type_of d) t (other 0 d (omega arith))) (find_none t ds (λ k o h. other (suc k) o (omega arith)))

find_last : (t : ℕ) (d : DecidingEntry) (ds : List DecidingEntry)
    → find (is_of_type t) (reverse (d ∷ ds)) ≡ option_or (find (is_of_type t) (reverse ds)) (cond (type_of d == t) (Some d) None)
find_last t d ds = ap (find (is_of_type t)) (reverse-more d ds) ∙ find-append (is_of_type t) (reverse ds) (d ∷ [])

or_none : (o : Option DecidingEntry) → option_or o None ≡ o
or_none None = refl
or_none (Some d) = refl

or_or : (o p : Option DecidingEntry) (d : DecidingEntry) → option_or (option_or o (Some d)) p ≡ option_or o (Some d)
or_or None p d = refl
or_or (Some e) p d = refl

none_reversed : (t : ℕ) (ds : List DecidingEntry) → ((k : ℕ) (o : DecidingEntry) → k < length ds → type_of (get_or ds k o) ≢ t)
    → find (is_of_type t) (reverse ds) ≡ None
none_reversed t [] other = refl
none_reversed t (d ∷ ds) other =
    find_last t d ds ∙ rw (ne_eqb (type_of d) t (other 0 d (omega arith)), none_reversed t ds (λ k o h. other (suc k) o (omega arith))) refl

-- the first entry of a type is found in the reversed list only if there is no other
first_is_hidden : (t : ℕ) (d e : DecidingEntry) (ds : List DecidingEntry) → type_of e ≡ t
    → find (is_of_type t) (reverse (d ∷ e ∷ ds)) ≡ find (is_of_type t) (reverse (e ∷ ds))
first_is_hidden t d e ds same =
    find_last t d (e ∷ ds)
    ∙ rw (find_last t e ds, eq-eqb (type_of e) t same) (or_or (find (is_of_type t) (reverse ds)) (cond (type_of d == t) (Some d) None) e)

other_is_passed : (t : ℕ) (d : DecidingEntry) (ds : List DecidingEntry) → type_of d ≢ t
    → find (is_of_type t) (reverse (d ∷ ds)) ≡ find (is_of_type t) (reverse ds)
other_is_passed t d ds other = find_last t d ds ∙ rw (ne_eqb (type_of d) t other) (or_none (find (is_of_type t) (reverse ds)))

-- ---- the last of each type

-- the entries that have none of their type next to them
abbrev pub last_of_types : List DecidingEntry → List DecidingEntry
last_of_types [] = []
last_of_types (d ∷ ds) = cond (ends_a_type (d ∷ ds)) (d ∷ last_of_types ds) (last_of_types ds)

tail_sorted : (d : DecidingEntry) (ds : List DecidingEntry) → IsNonDecreasingBy type_of (d ∷ ds) → IsNonDecreasingBy type_of ds
tail_sorted d ds up i j o le within = up (suc i) (suc j) o (omega arith) (omega arith)

last_at : (t : ℕ) (ds : List DecidingEntry) → IsNonDecreasingBy type_of ds → find (is_of_type t) (last_of_types ds) ≡ find (is_of_type t) (reverse ds)
last_at t [] up = refl
last_at t (d ∷ []) up = refl
last_at t (d ∷ e ∷ ds) up =
    let rest = last_at t (e ∷ ds) (tail_sorted d (e ∷ ds) up) in
    elim (cases_eq (type_of e) (type_of d)) [
      | inl same ↦ rw (eq-eqb (type_of e) (type_of d) same) (rest ∙ sym (elim (cases_eq (type_of d) t) [
        | inl here ↦ first_is_hidden t d e ds (same ∙ here)
        | inr other ↦ other_is_passed t d (e ∷ ds) other
      ]))
      | inr apart ↦ rw (ne_eqb (type_of e) (type_of d) apart) (elim (cases_eq (type_of d) t) [
        | inl here ↦ rw (eq-eqb (type_of d) t here) (sym (find_last t d (e ∷ ds) ∙ rw (
          eq-eqb (type_of d) t here,
          none_reversed t (e ∷ ds) (λ k o h same.
              let first = up 0 1 o (omega arith) (omega arith) in let far = up 1 (suc k) o (omega arith) (omega arith) in omega arith),
        ) refl))
        | inr other ↦ rw (ne_eqb (type_of d) t other) (rest ∙ sym (other_is_passed t d (e ∷ ds) other))
      ])
    ]

above : (b : ℕ) (ds : List DecidingEntry) → ((k : ℕ) (o : DecidingEntry) → k < length ds → b < type_of (get_or ds k o))
    → AllByRecursion (λ y. nat_cmp b y ≡ Less) (map type_of (last_of_types ds))
above b [] higher = tt
above b (d ∷ ds) higher =
    let rest = above b ds (λ k o h. higher (suc k) o (omega arith)) in
    go (ends_a_type (d ∷ ds)) rest
  where
    go : (ends : Bool) → AllByRecursion (λ y. nat_cmp b y ≡ Less) (map type_of (last_of_types ds))
        → AllByRecursion (λ y. nat_cmp b y ≡ Less) (map type_of (cond ends (d ∷ last_of_types ds) (last_of_types ds)))
    go true rest = (sym (nat_cmp_is b (type_of d) Less (higher 0 d (omega arith))), rest)
    go false rest = rest

last_ascend : (ds : List DecidingEntry) → IsNonDecreasingBy type_of ds → IsStrictlySortedBy nat_cmp (map type_of (last_of_types ds))
unfolding IsStrictlySortedBy
last_ascend [] up = tt
last_ascend (d ∷ []) up = (tt, tt)
last_ascend (d ∷ e ∷ ds) up =
    let rest = last_ascend (e ∷ ds) (tail_sorted d (e ∷ ds) up) in
    elim (cases_eq (type_of e) (type_of d)) [
      | inl same ↦ rw (eq-eqb (type_of e) (type_of d) same) rest
      | inr apart ↦ rw (ne_eqb (type_of e) (type_of d) apart) (
        above (type_of d) (e ∷ ds) (λ k o h.
            let first = up 0 1 o (omega arith) (omega arith) in let far = up 1 (suc k) o (omega arith) (omega arith) in omega arith),
        rest,
      )
    ]

pub are_last : (ds : List DecidingEntry) → IsNonDecreasingBy type_of ds → AreLast ds (last_of_types ds)
are_last ds up = record { ascending = last_ascend ds up; at = λ t. last_at t ds up }

-- ---- the entries of a directory, kept so

-- what a sort by type keeps in order is found alike in the reversed list
last_of_type : (t : ℕ) (ds : List DecidingEntry) → find (is_of_type t) (reverse ds) ≡ find (is_of_type t) (reverse (of_type t ds))
last_of_type t [] = refl
last_of_type t (d ∷ ds) = elim (cases_eq (type_of d) t) [
  | inl here ↦ rw (eq-eqb (type_of d) t here) (find_last t d ds ∙ rw (last_of_type t ds) (sym (find_last t d (of_type t ds))))
  | inr other ↦ rw (ne_eqb (type_of d) t other) (other_is_passed t d ds other ∙ last_of_type t ds)
]

pub decides : (es : List MINIDUMP_DIRECTORY) (all sorted ds : List DecidingEntry) → all ≡ with_indices es → All (λ d. type_of d < 2 ^ 32) all
    → ((t : ℕ) → of_type t sorted ≡ of_type t all) → AreLast sorted ds → Decides ds es
decides es all sorted ds is small stable last = record {
  ascending = last.ascending;
  at = λ t. last.at t ∙ last_of_type t sorted ∙ ap (λ l. find (is_of_type t) (reverse l)) (stable t)
      ∙ sym (last_of_type t all) ∙ ap (λ l. find (is_of_type t) (reverse l)) is;
  small = λ t large. ap (λ l. find (is_of_type t) (reverse l)) (sym is) ∙ none_reversed t all (λ k o within same. let low = small k o within in omega arith);
}

abbrev with_keys : List DecidingEntry → List (ℕ × DecidingEntry)
with_keys ds = map (λ d. (type_of d, d)) ds

keys-with_keys : (ds : List DecidingEntry) → keys_of (with_keys ds) ≡ map type_of ds
keys-with_keys [] = refl
keys-with_keys (d ∷ ds) = ap (λ l. type_of d ∷ l) (keys-with_keys ds)

values-with_keys : (ds : List DecidingEntry) → values_of (with_keys ds) ≡ ds
values-with_keys [] = refl
values-with_keys (d ∷ ds) = ap (λ l. d ∷ l) (values-with_keys ds)

lookup-with_keys : (t : ℕ) (ds : List DecidingEntry) → lookup (is_at (nat_cmp t)) (with_keys ds) ≡ find (is_of_type t) ds
lookup-with_keys t ds = lookup_number t (with_keys ds) ∙ by_type ds
  where
    by_type : (ds : List DecidingEntry) → lookup (λ k. k == t) (with_keys ds) ≡ find (is_of_type t) ds
    by_type [] = refl
    by_type (d ∷ ds) = ap (cond (type_of d == t) (Some d)) (by_type ds)

pub deciding_entries_below_is : (es : List MINIDUMP_DIRECTORY) (ds : List DecidingEntry) → Decides ds es → ds ≡ deciding_entries_below (2 ^ 32) es
unfolding deciding_entries_below
deciding_entries_below_is es ds is =
    sym (values-with_keys ds)
    ∙ values_by_key (λ t. deciding_entry t es) (2 ^ 32) (with_keys ds) (rw (keys-with_keys ds) is.ascending)
    (λ t. sym (is.at t) ∙ sym (lookup-with_keys t ds)) (λ t large. lookup-with_keys t ds ∙ is.at t ∙ is.small t large)

-- ---- a binary search by type

ascends : (ds : List DecidingEntry) → IsStrictlySortedBy nat_cmp (map type_of ds) → (j k : ℕ) (o : DecidingEntry) → j < k → k < length ds
    → type_of (get_or ds j o) < type_of (get_or ds k o)
unfolding IsStrictlySortedBy
ascends [] up j k o lt within = absurd (omega arith)
ascends (d ∷ ds) up zero zero o lt within = absurd (omega arith)
ascends (d ∷ ds) up zero (suc k) o lt within = go ds k up.0 (omega arith)
  where
    go : (ds : List DecidingEntry) (k : ℕ) → AllByRecursion (λ y. nat_cmp (type_of d) y ≡ Less) (map type_of ds) → k < length ds
        → type_of d < type_of (get_or ds k o)
    go [] k above within = absurd (omega arith)
    go (e ∷ ds) zero above within = ranked (type_of d) (type_of e) Less (sym above.0)
    go (e ∷ ds) (suc k) above within = go ds k above.1 (omega arith)
ascends (d ∷ ds) up (suc j) zero o lt within = absurd (omega arith)
ascends (d ∷ ds) up (suc j) (suc k) o lt within = ascends ds up.1 j k o (omega arith) (omega arith)

find_some : (t : ℕ) (ds : List DecidingEntry) (k : ℕ) (o : DecidingEntry) → ((j : ℕ) → j < k → type_of (get_or ds j o) ≢ t) → k < length ds
    → type_of (get_or ds k o) ≡ t
    → find (is_of_type t) ds ≡ Some (get_or ds k o)
find_some t [] k o before within here = absurd (omega arith)
find_some t (d ∷ ds) zero o before within here = rw (eq-eqb (type_of d) t here) refl
find_some t (d ∷ ds) (suc k) o before within here =
    rw (ne_eqb (type_of d) t (before 0 (omega arith))) (find_some t ds k o (λ j lt. before (suc j) (omega arith)) (omega arith) here)

module _ (ds : List DecidingEntry) (up : IsStrictlySortedBy nat_cmp (map type_of ds)) (t : ℕ) where
  comparisons_rise : IsNonDecreasingBy (λ d. ordering_index (nat_cmp (type_of d) t)) ds
  comparisons_rise i j o le within =
      let types_rise : type_of (get_or ds i o) ≤ type_of (get_or ds j o) =
      elim (cases_lt i j) [
        | inl lt ↦ (let step = ascends ds up i j o lt within in omega (arith, step))
        | inr ge ↦ (let same : i ≡ j = omega arith in subst (λ (n : ℕ). type_of (get_or ds i o) ≤ type_of (get_or ds n o)) same (omega arith))
      ] in
      grind (arith, nat_tests)

  pub search_finds : (r : Result ℕ ℕ) → IsSearchInRange r (length ds) → IsBinarySearchResult (λ d. nat_cmp (type_of d) t) ds r
      → MatchResult r (λ k. (o : DecidingEntry) → find (is_of_type t) ds ≡ Some (get_or ds k o)) (λ k. find (is_of_type t) ds ≡ None)
  search_finds (Ok k) within equal = λ o.
      let here = ranked (type_of (get_or ds k o)) t _ (sym (equal o)) in
      find_some t ds k o (λ j lt same. let less = ascends ds up j k o lt within in omega (arith, less, here, same)) within here
  search_finds (Err k) within parted = find_none t ds (λ j o h same. elim (cases_lt j k) [
    | inl before ↦ (let less = ranked _ t _ (sym ((parted comparisons_rise).0 j o (omega arith) before)) in omega (arith, less, same))
    | inr after ↦ (let more = ranked _ t _ (sym ((parted comparisons_rise).1 j o after h)) in omega (arith, more, same))
  ])

-- ---- a sort by type

abbrev pub of_that_type : ℕ → DecidingEntry
of_that_type t = record { index = 0; entry = record { stream_type = t; location = record { data_size = 0; rva = 0 } } }

types_tie : (t n : ℕ) → ties (λ a b. is_lt (nat_cmp a b)) t n ≡ (n == t)
types_tie t n = grind (arith, nat_tests)

tied_are_of_type : (t : ℕ) (ds : List DecidingEntry) → filter (ties (λ d e. is_lt (nat_cmp (type_of d) (type_of e))) (of_that_type t)) ds ≡ of_type t ds
tied_are_of_type t [] = refl
tied_are_of_type t (d ∷ ds) = rw (types_tie t (type_of d), tied_are_of_type t ds) refl

pub stable_by_type : (t : ℕ) (xs ys : List DecidingEntry) → IsStableByKey type_of nat_cmp xs ys → of_type t ys ≡ of_type t xs
stable_by_type t xs ys stable = sym (tied_are_of_type t ys) ∙ stable (of_that_type t) ∙ tied_are_of_type t xs

-- ---- the loop that keeps the last of each type

pub ends_at_end : (ds : List DecidingEntry) (i : ℕ) → length ds ≤ i + 1 → true ≡ ends_a_type (drop i ds)
ends_at_end [] zero past = refl
ends_at_end [] (suc i) past = refl
ends_at_end (d ∷ []) zero past = refl
ends_at_end (d ∷ e ∷ ds) zero past = absurd (omega arith)
ends_at_end (d ∷ ds) (suc i) past = ends_at_end ds i (omega arith)

module _ (old now : List DecidingEntry) (i kept : ℕ) (within : i < length now) (rest : drop i now ≡ drop i old) where
  pub rest_more : drop (i + 1) now ≡ drop (i + 1) old
  rest_more = sym (drop-drop 1 i now) ∙ ap (drop 1) rest ∙ drop-drop 1 i old

  pub keep_more : (d : DecidingEntry) → d ≡ get_or now i d → kept ≤ i → true ≡ ends_a_type (drop i now)
      → take kept now ++ last_of_types (drop i old) ≡ last_of_types old
      → take (kept + 1) (set now kept d) ++ last_of_types (drop (i + 1) old) ≡ last_of_types old
  keep_more d at le ends before =
      let now_is : drop i now ≡ d ∷ drop (i + 1) now = drop_more now i d within ∙ ap (λ e. e ∷ drop (i + 1) now) (sym at) in
      let here : last_of_types (drop i old) ≡ d ∷ last_of_types (drop (i + 1) now) =
      ap last_of_types (sym rest ∙ now_is) ∙ rw (sym (ends ∙ ap ends_a_type now_is)) refl in
      rw (take_more_set now kept d (omega arith), ← rest_more, append_assoc (take kept now) (d ∷ []) (last_of_types (drop (i + 1) now)))
      (ap (λ l. take kept now ++ l) (sym here) ∙ before)

  pub skip_more : false ≡ ends_a_type (drop i now) → take kept now ++ last_of_types (drop i old) ≡ last_of_types old
      → take kept now ++ last_of_types (drop (i + 1) old) ≡ last_of_types old
  skip_more goes_on before =
      let now_is = drop_more now i (of_that_type 0) within in
      let here : last_of_types (drop i old) ≡ last_of_types (drop (i + 1) now) =
      ap last_of_types (sym rest ∙ now_is) ∙ rw (sym (goes_on ∙ ap ends_a_type now_is)) refl in
      rw (← rest_more) (ap (λ l. take kept now ++ l) (sym here) ∙ before)

pub kept_are_last : (old now : List DecidingEntry) (i kept : ℕ) → IsNonDecreasingBy type_of old → length old ≤ i
    → take kept now ++ last_of_types (drop i old) ≡ last_of_types old → AreLast old (take kept now)
kept_are_last old now i kept up past all =
    let kept_are : take kept now ≡ last_of_types old =
    sym (append-nil (take kept now)) ∙ ap (λ l. take kept now ++ last_of_types l) (sym (drop_all i old past)) ∙ all in
    subst (AreLast old) (sym kept_are) (are_last old up)
