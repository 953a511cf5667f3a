-- What is found among the members of a list.
use Rattle.std.proofs.Common.{◌≡◌, Bool, true, false, List, [], ◌∷◌, Option, Some, None, refl, inl, inr, cond, subst}
use Rattle.std.specs.Prelude.{◌&&◌, ◌||◌, Contains, not, IsSome}
use Rattle.std.specs.List.{find, list_any}
use Rattle.minidump_index.proofs.ContainsLemmas.{cases, head, nothing, tail}
use Rattle.minidump_bytes.proofs.CutLemmas.{some_same}

pub and_false : (b : Bool) → (b && false) ≡ false
and_false true = refl
and_false false = refl

pub or_true : (b : Bool) → (b || true) ≡ true
or_true true = refl
or_true false = refl

pub both : (a b : Bool) → (a && b) ≡ true → (a ≡ true) × (b ≡ true)
both true true h = (refl, refl)
both true false h = absurd (let k : false ≡ true = h in cc)
both false b h = absurd (let k : false ≡ true = h in cc)

pub unless : (b : Bool) → not b ≡ true → b ≡ false
unless true h = absurd (let k : false ≡ true = h in cc)
unless false h = refl

pub although : (b : Bool) → not b ≡ false → b ≡ true
although true h = refl
although false h = absurd (let k : true ≡ false = h in cc)

pub some_is : {A : Type 0} (o : Option A) (x : A) → o ≡ Some x → IsSome o
some_is None x h = absurd (let k : None ≡ Some x = h in cc)
some_is (Some y) x h = refl

module _ {A : Type 0} where
  -- tests that agree on the members of a list find the same
  pub find_as : (p q : A → Bool) (xs : List A) → ((x : A) → Contains xs x → p x ≡ q x) → find p xs ≡ find q xs
  find_as p q [] same = refl
  find_as p q (x ∷ xs) same = rw (same x (head x xs), find_as p q xs (λ y there. same y (tail x xs y there))) refl

  pub find_none : (p : A → Bool) (xs : List A) → ((x : A) → Contains xs x → p x ≡ false) → find p xs ≡ None
  find_none p [] fails = refl
  find_none p (x ∷ xs) fails = rw (fails x (head x xs)) (find_none p xs (λ y there. fails y (tail x xs y there)))

  -- what is found is a member, and passes
  pub found_passes : (p : A → Bool) (xs : List A) (y : A) → find p xs ≡ Some y → Contains xs y × (p y ≡ true)
  found_passes p [] y h = absurd (let k : None ≡ Some y = h in cc)
  found_passes p (x ∷ xs) y h = by (p x) refl (λ e. found_passes p xs y e) h
    where
      by : (t : Bool) → p x ≡ t → (find p xs ≡ Some y → Contains xs y × (p y ≡ true)) → cond t (Some x) (find p xs) ≡ Some y → Contains (x ∷ xs) y × (p y ≡ true)
      by true is rest k = let same = some_same x y k in (subst (Contains (x ∷ xs)) same (head x xs), rw (← same) is)
      by false is rest k = let more = rest k in (tail x xs y more.0, more.1)

  -- where nothing is found, no member passes
  pub none_passes : (p : A → Bool) (xs : List A) → find p xs ≡ None → (y : A) → Contains xs y → p y ≡ false
  none_passes p [] h y there = absurd (nothing y there)
  none_passes p (x ∷ xs) h y there = by (p x) refl (λ e more. none_passes p xs e y more) h
    where
      by : (t : Bool) → p x ≡ t → (find p xs ≡ None → Contains xs y → p y ≡ false) → cond t (Some x) (find p xs) ≡ None → p y ≡ false
      by true is rest k = absurd (let clash : Some x ≡ None = k in cc)
      by false is rest k = elim (cases x xs y there) [
        | inl same ↦ rw (← same) is
        | inr more ↦ rest k more
      ]

  pub any_member : (p : A → Bool) (xs : List A) → list_any p xs ≡ true → (x : A) × Contains xs x × (p x ≡ true)
  any_member p [] h = absurd (let k : false ≡ true = h in cc)
  any_member p (x ∷ xs) h = by (p x) refl (λ e. any_member p xs e) h
    where
      by : (t : Bool) → p x ≡ t → (list_any p xs ≡ true → (y : A) × Contains xs y × (p y ≡ true)) → (t || list_any p xs) ≡ true → (y : A) × Contains (x ∷ xs) y × (p y ≡ true)
      by true is rest k = (x, head x xs, is)
      by false is rest k = let more = rest k in (more.0, tail x xs more.0 more.1, more.2)

  pub member_any : (p : A → Bool) (xs : List A) (y : A) → Contains xs y → p y ≡ true → list_any p xs ≡ true
  member_any p [] y there is = absurd (nothing y there)
  member_any p (x ∷ xs) y there is = elim (cases x xs y there) [
    | inl same ↦ let here : p x ≡ true = rw same is in rw here refl
    | inr more ↦ rw (member_any p xs y more is) (or_true (p x))
  ]
