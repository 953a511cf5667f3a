-- The codes of a family among listings.
use Rattle.std.proofs.Common.{◌≡◌, ℕ, ◌<◌, List, [], length, get_or, sym, ◌∙◌, AllPairs, filter, arith}
use Rattle.std.specs.Borrow.{Bor}
use Rattle.std.proofs.lemmas.List.{get_or-map, length-map}
use Rattle.std.proofs.lemmas.List.Elements.{filter_passes}
use Rattle.std.proofs.lemmas.List.Kept.{AllPairs-filter}
use Rattle.minidump_reason.specs.declared.family.CodeFamily.{CodeFamily}
use Rattle.minidump_reason.specs.Names.{LentEntries, IsAscending, entries_of, is_family}
use Rattle.minidump_names.specs.NameLine.{Listing}
use Rattle.minidump_names.specs.NamesText.{InOrder, entries_of_family, entry_of}
use Rattle.minidump_names.proofs.FamilyLemmas.{same_family}

pub family_ascends : (ls : List Listing) (f : CodeFamily) → InOrder ls → AllPairs (λ a b. a.0 < b.0) (entries_of_family ls f)
family_ascends ls f order i j d lt within =
    let p = λ (l : Listing). is_family l.family f in
    let kept = filter p ls in
    let last : j < length kept = omega (arith, within, length-map kept entry_of) in
    let e : Listing = record { family = f; number = 0; name = [] } in
    let first = same_family (get_or kept i e).family f (filter_passes p ls i e (omega arith)) in
    let second = same_family (get_or kept j e).family f (filter_passes p ls j e last) in
    let less = AllPairs-filter (λ (a b : Listing). a.family ≡ b.family → a.number < b.number) p ls order i j e lt last (first ∙ sym second) in
    rw (get_or-map entry_of kept i e d (omega arith), get_or-map entry_of kept j e d last) less

abbrev lent_entry : ℕ × Bor (List ℕ) → ℕ × List ℕ
lent_entry e = (e.0, e.1.now)

pub lent_ascends : (xs : LentEntries) → AllPairs (λ a b. a.0 < b.0) (entries_of xs) → IsAscending xs
lent_ascends xs all i j d lt within =
    let last : j < length (entries_of xs) = omega (arith, within, length-map xs lent_entry) in
    let less = all i j (lent_entry d) lt last in
    rw (get_or-map lent_entry xs i d (lent_entry d) (omega arith), get_or-map lent_entry xs j d (lent_entry d) within) at less
