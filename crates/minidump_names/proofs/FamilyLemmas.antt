-- Families: the one of a name, and that they are apart.
use Rattle.std.proofs.Common.{◌≡◌, ◌≢◌, ℕ, ◌+◌, ◌<◌, ◌≤◌, Bool, true, false, List, [], ◌∷◌, length, get_or, drop, suc, Some, None, refl, sym, ap, ◌∙◌, AllPairs}
use Rattle.std.proofs.Common.{add-one, arith, rules, if◌then◌else◌}
use Rattle.std.specs.Prelude.{◌&&◌, not}
use Rattle.std.specs.Str.{bytes_eq}
use Rattle.std.specs.List.{list_any}
use Rattle.std.proofs.lemmas.List.Folds.{list_any_at}
use Rattle.std.proofs.lemmas.List.Kept.{AllPairs-cons}
use Rattle.std.proofs.Math.ListN.{drop_of_length-le}
use Rattle.std.proofs.Math.Seq.{drop-cons}
use denote.Enum.Bare.{true_same, same_true}
use mathlib.Core.Bool.{false≢true}
use Rattle.minidump_reason.specs.contracts.family.CodeFamily.{the_type}
use Rattle.minidump_reason.specs.declared.family.CodeFamily.{CodeFamily}
use Rattle.minidump_reason.specs.Names.{is_family}
use Rattle.minidump_names.specs.NameLine.{families, family_name, find_family}

-- ---- the family of a name, from an index on

pub find_here : (fs : List CodeFamily) (i : ℕ) (d : CodeFamily) (text : List ℕ) → i < length fs → bytes_eq text (family_name (get_or fs i d)) ≡ true
    → find_family (drop i fs) text ≡ Some (get_or fs i d)
find_here fs i d text inside same =
    ap (λ l. find_family l text) (drop-cons fs i d inside)
    ∙ ap (λ t. if t then Some (get_or fs i d) else find_family (drop (suc i) fs) text) same

pub find_later : (fs : List CodeFamily) (i : ℕ) (d : CodeFamily) (text : List ℕ) → i < length fs → bytes_eq text (family_name (get_or fs i d)) ≡ false
    → find_family (drop i fs) text ≡ find_family (drop (i + 1) fs) text
find_later fs i d text inside other =
    ap (λ l. find_family l text) (drop-cons fs i d inside)
    ∙ ap (λ t. if t then Some (get_or fs i d) else find_family (drop (suc i) fs) text) other
    ∙ ap (λ n. find_family (drop n fs) text) (sym (add-one i))

pub find_never : (fs : List CodeFamily) (i : ℕ) (text : List ℕ) → length fs ≤ i → find_family (drop i fs) text ≡ None
find_never fs i text past = ap (λ l. find_family l text) (drop_of_length-le fs past)

-- ---- families are told apart

pub other_family : (f g : CodeFamily) → is_family f g ≡ false → f ≢ g
other_family f g other same = false≢true (sym other ∙ true_same the_type f g same)

pub same_family : (f g : CodeFamily) → is_family f g ≡ true → f ≡ g
same_family f g same = same_true the_type (search rules) f g same

distinct : List CodeFamily → Bool
distinct [] = true
distinct (f ∷ rest) = not (list_any (is_family f) rest) && distinct rest

split_and : (a b : Bool) → (not a && b) ≡ true → (a ≡ false) × (b ≡ true)
split_and false b e = (refl, e)
split_and true b e = absurd (false≢true e)

apart_from : (fs : List CodeFamily) → distinct fs ≡ true → AllPairs (λ f g. f ≢ g) fs
unfolding distinct
apart_from [] e = λ i j d lt within. absurd (omega (arith, within))
apart_from (f ∷ rest) e =
    let both = split_and (list_any (is_family f) rest) (distinct rest) e in
    AllPairs-cons (λ f g. f ≢ g) f rest
    (λ k d within. other_family f (get_or rest k d) (elim (is_family f (get_or rest k d)) as (λ b. is_family f (get_or rest k d) ≡ b → b ≡ false) [
      | true ↦ (λ same. sym (list_any_at (is_family f) rest k d within same) ∙ both.0)
      | false ↦ (λ _. refl)
    ] refl))
    (apart_from rest both.1)

pub families_apart : AllPairs (λ f g. f ≢ g) families
unfolding distinct families
families_apart = apart_from families refl
