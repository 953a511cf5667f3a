-- The last item of a list that is chosen.
use Rattle.std.specs.Prelude.{ℕ, ◌≡◌, ◌+◌, [], ◌∷◌, All, Bool, IsSomeAnd, IsTrue, List, MatchOption, Option}
use Rattle.std.specs.Prelude.{Some, None, drop, if◌then◌else◌, not, slice_get}
use Rattle.std.specs.Option.{option_map, option_or}

-- an index is that of the last item that is chosen: the item there is, and none after it is
pub record IsLast {X : Type 0} (is_chosen : X → Bool) (items : List X) (index : ℕ) : Type 0 where
  pub chosen : IsSomeAnd (slice_get items index) (λ x. IsTrue (is_chosen x))
  pub none_later : All (λ x. IsTrue (not (is_chosen x))) (drop (index + 1) items)

-- the same where there is one: there is none only where no item is chosen
abbrev pub IsLastOrNone : {X : Type 0} → (X → Bool) → List X → Option ℕ → Type 0
IsLastOrNone is_chosen items index =
    MatchOption index (All (λ x. IsTrue (not (is_chosen x))) items) (IsLast is_chosen items)

-- this index as a function, by which it stands in other definitions: that of one after the first item, else of
-- the first
abbrev pub last_index : {X : Type 0} → (X → Bool) → List X → Option ℕ
last_index is_chosen [] = None
last_index is_chosen (x ∷ xs) = option_or (option_map (λ i. i + 1) (last_index is_chosen xs))
    (if is_chosen x then Some 0 else None)

-- an index is that of the last item that is chosen, by whatever test tells of each item whether it is
abbrev pub IsLastIndex : {X : Type 0} → (X → Bool → Type 0) → List X → Option ℕ → Type 0
IsLastIndex {X} IsChosen items index = (test : X → Bool)
    → ((x : X) (b : Bool) → IsChosen x b → b ≡ test x) → index ≡ last_index test items
