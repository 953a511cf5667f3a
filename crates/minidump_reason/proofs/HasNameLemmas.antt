-- The names that are found are those that the lists hold.
use Rattle.std.proofs.Common.{rules, ◌≡◌, ◌≢◌, ℕ, zero, suc, ◌<◌, Bool, true, false, List, [], ◌∷◌, length, get_or, map, Some, refl, sym, ap, subst}
use Rattle.std.proofs.Common.{◌∙◌, inl, inr, arith, if◌then◌else◌, All, AllPairs}
use Rattle.std.specs.Prelude.{Contains}
use Rattle.std.proofs.lemmas.List.{get_or-map, length-map}
use Rattle.std.proofs.lemmas.List.Elements.{All-map}
use Rattle.std.proofs.lemmas.Bool.Decides.{eqb_tells}
use borrow.Author.Tests.{eq-eqb, ne_eqb}
use denote.Enum.Bare.{same_true, true_same, false_same}
use Rattle.minidump_reason.specs.contracts.family.CodeFamily.{the_type}
use Rattle.minidump_reason.specs.declared.family.CodeFamily.{CodeFamily}
use Rattle.minidump_reason.specs.Names.{LentLists, AreCodeNames, Entries, Lists, HasName, entries_of, lists_of, is_family, list_of, name_in, name_of}

-- ---- what holds of each two elements holds of what they are mapped to

pub all_pairs_map : {X Y : Type 0} (R : Y → Y → Type 0) (h : X → Y) (xs : List X) → AllPairs (λ a b. R (h a) (h b)) xs → AllPairs R (map h xs)
all_pairs_map R h [] all i j d lt within = absurd (omega (arith, within))
all_pairs_map R h (x ∷ xs) all i j d lt within =
    let last : j < length (x ∷ xs) = omega (arith, within, length-map (x ∷ xs) h) in
    let first : i < length (x ∷ xs) = omega arith in
    rw (get_or-map h (x ∷ xs) i x d first, get_or-map h (x ∷ xs) j x d last) (all i j x lt last)

-- ---- lists without where they lie in memory

abbrev Ascending : Entries → Type 0
Ascending = AllPairs (λ a b. a.0 < b.0)

record AreLists (lists : Lists) : Type 0 where
  ascending : All (λ list. Ascending list.1) lists
  apart : AllPairs (λ a b. a.0 ≢ b.0) lists

are_lists : (lists : LentLists) → AreCodeNames lists → AreLists (lists_of lists)
are_lists lists names = record {
  ascending =
      All-map (λ list. Ascending list.1) (λ l. (l.0, entries_of l.1.now)) lists
      (λ k d within. all_pairs_map (λ a b. a.0 < b.0) (λ e. (e.0, e.1.now)) (get_or lists k d).1.now (names.ascending k d within));
  apart = all_pairs_map (λ a b. a.0 ≢ b.0) (λ l. (l.0, entries_of l.1.now)) lists names.apart;
}

-- ---- what is found is there

name_there : (entries : Entries) (number : ℕ) (name : List ℕ) → name_in entries number ≡ Some name → Contains entries (number, name)
name_there [] number name found = cc
name_there ((n, t) ∷ rest) number name found = elim (eqb_tells n number) [
  | inl h ↦
      (let here : Some t ≡ Some name = ap (λ b. if b then Some t else name_in rest number) (sym h.0) ∙ found in
      let same : t ≡ name = cc in
      (0, omega arith, ap (λ m. (m, t)) h.1 ∙ ap (λ s. (number, s)) same))
  | inr h ↦
      (let later : name_in rest number ≡ Some name = ap (λ b. if b then Some t else name_in rest number) (sym h.0) ∙ found in
      let there = name_there rest number name later in
      (suc there.0, omega (arith, there.1), there.2))
]

list_there : (lists : Lists) (family : CodeFamily) (number : ℕ) (name : List ℕ) → name_in (list_of lists family) number ≡ Some name
    → HasName lists family number name
list_there [] family number name found = cc
list_there ((f, entries) ∷ rest) family number name found = by_case (is_family f family) refl (list_there rest family number name)
  where
    by_case : (b : Bool) → is_family f family ≡ b → (name_in (list_of rest family) number ≡ Some name → HasName rest family number name)
        → HasName ((f, entries) ∷ rest) family number name
    by_case true e later =
        let here : name_in entries number ≡ Some name = ap (λ b. name_in (if b then entries else list_of rest family) number) (sym e) ∙ found in
        (entries, (0, omega arith, ap (λ g. (g, entries)) (same_true the_type (search rules) f family e)), name_there entries number name here)
    by_case false e later =
        let found_later : name_in (list_of rest family) number ≡ Some name = ap (λ b. name_in (if b then entries else list_of rest family) number)
        (sym e) ∙ found in
        let there = later found_later in
        (there.0, (suc there.1.0, omega (arith, there.1.1), there.1.2), there.2)

-- ---- what is there is found

name_found : (entries : Entries) (number : ℕ) (name : List ℕ) (k : ℕ) → Ascending entries → k < length entries
    → get_or entries k (number, name) ≡ (number, name) → name_in entries number ≡ Some name
name_found [] number name k up within at = absurd (omega (arith, within))
name_found ((n, t) ∷ rest) number name zero up within at =
    ap (λ b. if b then Some t else name_in rest number) (eq-eqb n number (ap (λ e. e.0) at)) ∙ ap (λ e. Some e.1) at
name_found ((n, t) ∷ rest) number name (suc k) up within at =
    let below : n < (get_or rest k (number, name)).0 = up 0 (suc k) (number, name) (omega arith) within in
    let that : (get_or rest k (number, name)).0 ≡ number = ap (λ e. e.0) at in
    let tail : Ascending rest = λ i j d lt h. up (suc i) (suc j) d (omega arith) (omega arith) in
    ap (λ b. if b then Some t else name_in rest number) (ne_eqb n number (λ same. omega (arith, below, that, same)))
    ∙ name_found rest number name k tail (omega arith) at

list_found : (lists : Lists) (family : CodeFamily) (entries : Entries) (k : ℕ) → AllPairs (λ a b. a.0 ≢ b.0) lists → k < length lists
    → get_or lists k (family, entries) ≡ (family, entries) → list_of lists family ≡ entries
list_found [] family entries k apart within at = absurd (omega (arith, within))
list_found ((f, es) ∷ rest) family entries zero apart within at =
    ap (λ b. if b then es else list_of rest family) (true_same the_type f family (ap (λ l. l.0) at)) ∙ ap (λ l. l.1) at
list_found ((f, es) ∷ rest) family entries (suc k) apart within at =
    let other : f ≢ family = λ same. apart 0 (suc k) (family, entries) (omega arith) within (same ∙ sym (ap (λ l. l.0) at)) in
    let tail : AllPairs (λ a b. a.0 ≢ b.0) rest = λ i j d lt h. apart (suc i) (suc j) d (omega arith) (omega arith) in
    ap (λ b. if b then es else list_of rest family) (false_same the_type (search rules) f family other) ∙ list_found rest family entries k tail (omega arith) at

-- ---- both

pub has_name_from_name_of : (lists : Lists) (family : CodeFamily) (number : ℕ) (name : List ℕ) → name_of lists family number ≡ Some name
    → HasName lists family number name
unfolding name_of
has_name_from_name_of lists family number name found = list_there lists family number name found

pub name_of_from_has_name : (lists : LentLists) → AreCodeNames lists → (family : CodeFamily) (number : ℕ) (name : List ℕ)
    → HasName (lists_of lists) family number name → name_of (lists_of lists) family number ≡ Some name
unfolding name_of
name_of_from_has_name lists names family number name (entries, (k, within, at), (j, inside, there)) =
    let all = are_lists lists names in
    let up : Ascending entries = subst (λ (l : CodeFamily × Entries). Ascending l.1) at (all.ascending k (family, entries) within) in
    ap (λ es. name_in es number) (list_found (lists_of lists) family entries k all.apart within at) ∙ name_found entries number name j up inside there
