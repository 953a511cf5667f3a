-- Lists that are lent: they are valid, and their value is that of the lists that lend them.
use Rattle.std.proofs.Common.{◌≡◌, ◌≢◌, ℕ, ◌<◌, List, [], ◌∷◌, ◌++◌, ◌+◌, length, get_or, map, take, refl, sym, ap, subst, ◌∙◌, All, AllPairs, arith}
use Rattle.std.specs.Borrow.{Bor}
use Rattle.std.proofs.lemmas.List.{get_or-map, get_or-take, length-map, length-take}
use Rattle.std.proofs.lemmas.List.Elements.{All-map}
use Rattle.std.proofs.lemmas.Option.{get_or_from_slice_get, slice_get_within}
use Rattle.std.proofs.lemmas.Simd.{map-map}
use Rattle.minidump_bytes.proofs.ListLemmas.{mapped_more}
use Rattle.minidump_reason.specs.declared.family.CodeFamily.{CodeFamily}
use Rattle.minidump_reason.specs.declared.names.CodeNamesError.{CodeNamesError}
use Rattle.minidump_reason.specs.declared.names.CodeNamesError.TheVariants.{NotAscending, Repeated}
use Rattle.minidump_reason.proofs.HasNameLemmas.{all_pairs_map}
use Rattle.minidump_reason.specs.Names.{AreCodeNames, Entries, IsAscending, IsFirstListError, IsCodeListError, LentEntries, LentLists, entries_of, lists_of}

-- ---- what holds of elements, and of what they are mapped to

pub all_unmap : {X Y : Type 0} (P : Y → Type 0) (h : X → Y) (xs : List X) → All P (map h xs) → All (λ x. P (h x)) xs
all_unmap P h xs all k d within =
    let inside : k < length (map h xs) = omega (arith, within, length-map xs h) in
    rw (get_or-map h xs k d (h d) within) at (all k (h d) inside)

pub pairs_unmap : {X Y : Type 0} (R : Y → Y → Type 0) (h : X → Y) (xs : List X) → AllPairs R (map h xs) → AllPairs (λ a b. R (h a) (h b)) xs
pairs_unmap R h xs all i j d lt within =
    let inside : j < length (map h xs) = omega (arith, within, length-map xs h) in
    rw (get_or-map h xs i d (h d) (omega arith), get_or-map h xs j d (h d) within) at (all i j (h d) lt inside)

-- ---- lists that lend theirs

abbrev pub lent_list : CodeFamily × Bor LentEntries → CodeFamily × LentEntries
lent_list p = (p.0, p.1.now)

abbrev pub value_list : CodeFamily × LentEntries → CodeFamily × Entries
value_list p = (p.0, entries_of p.1)

module _ {X : Type 0} (raw : List X) (lends : X → CodeFamily × LentEntries) (lists : LentLists)
    (same : map lent_list lists ≡ map lends raw) where
  pub lent_names : All (λ x. IsAscending (lends x).1) raw → AllPairs (λ a b. (lends a).0 ≢ (lends b).0) raw → AreCodeNames lists
  lent_names up apart =
      let P : CodeFamily × LentEntries → Type 0 = λ p. IsAscending p.1 in
      let R : CodeFamily × LentEntries → CodeFamily × LentEntries → Type 0 = λ a b. a.0 ≢ b.0 in
      record {
        ascending = all_unmap P lent_list lists (subst (λ (l : List (CodeFamily × LentEntries)). All P l) (sym same) (All-map P lends raw up));
        apart = pairs_unmap R lent_list lists (subst (λ (l : List (CodeFamily × LentEntries)). AllPairs R l) (sym same) (all_pairs_map R lends raw apart));
      }

  pub lent_value : lists_of lists ≡ map (λ x. value_list (lends x)) raw
  lent_value =
      sym (map-map value_list lent_list lists) ∙ ap (λ l. map value_list l) same ∙ map-map value_list lends raw

-- ---- lists that are one for each family

abbrev pub entries_by : {V : Type 0} → (V → LentEntries) → CodeFamily × V → CodeFamily × Entries
entries_by items p = (p.0, entries_of (items p.1))

abbrev pub of_family : (CodeFamily → Entries) → CodeFamily → CodeFamily × Entries
of_family entries f = (f, entries f)

pub lists_more : {V : Type 0} (items : V → LentEntries) (entries : CodeFamily → Entries) (fs : List CodeFamily) (i : ℕ) (zs ys : List (CodeFamily × V))
    (z : CodeFamily × V) → ys ≡ zs ++ z ∷ [] → i < length fs → ((d : CodeFamily) → get_or fs i d ≡ z.0)
    → map (entries_by items) zs ≡ map (of_family entries) (take i fs) → entries_of (items z.1) ≡ entries z.0
    → map (entries_by items) ys ≡ map (of_family entries) (take (i + 1) fs)
lists_more items entries fs i zs ys z grown inside there so_far is =
    let same : entries_by items z ≡ of_family entries (get_or fs i z.0) = rw (there z.0, is) refl in
    rw grown (mapped_more (of_family entries) (entries_by items) fs zs i z.0 z inside so_far same)

pub apart_by : {X : Type 0} (lends : X → CodeFamily × Entries) (entries : CodeFamily → Entries) (xs : List X) (fs : List CodeFamily)
    → map lends xs ≡ map {B = CodeFamily × Entries} (λ f. (f, entries f)) fs → AllPairs (λ f g. f ≢ g) fs
    → AllPairs (λ a b. (lends a).0 ≢ (lends b).0) xs
apart_by lends entries xs fs same apart =
    let R : CodeFamily × Entries → CodeFamily × Entries → Type 0 = λ a b. a.0 ≢ b.0 in
    let each : CodeFamily → CodeFamily × Entries = λ f. (f, entries f) in
    pairs_unmap R lends xs (subst (λ (l : List (CodeFamily × Entries)). AllPairs R l) (sym same) (all_pairs_map R each fs apart))

-- ---- valid lists have no error

error_by : (lists : LentLists) (index : ℕ) (family : CodeFamily) (entries : Bor LentEntries) → index < length lists
    → ((d : CodeFamily × Bor LentEntries) → get_or lists index d ≡ (family, entries))
    → (e : CodeNamesError) → AreCodeNames lists → IsCodeListError (take index lists) family entries.now e → ⊥
error_by lists index family entries inside there (NotAscending f) names (_, _, not_up) =
    let d : CodeFamily × Bor LentEntries = (family, entries) in
    not_up (subst (λ (p : CodeFamily × Bor LentEntries). IsAscending p.1.now) (there d) (names.ascending index d inside))
error_by lists index family entries inside there (Repeated f) names (_, (k, x, within, at, is)) =
    let before : k < index = omega (arith, within, length-take index lists) in
    let first : get_or lists k x ≡ x = sym (get_or-take index lists k x before) ∙ at in
    names.apart k index x before inside (ap (λ p. p.0) first ∙ is ∙ sym (ap (λ p. p.0) (there x)))

pub no_error : (lists : LentLists) (e : CodeNamesError) → AreCodeNames lists → IsFirstListError lists e → ⊥
no_error lists e names r =
    error_by lists r.index r.family r.entries (slice_get_within lists r.index (r.family, r.entries) r.there)
    (λ d. get_or_from_slice_get lists r.index (r.family, r.entries) d r.there) e names r.error
