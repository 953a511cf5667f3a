-- The text of a list: its count, and each item after its index.
use Rattle.std.specs.Prelude.{ℕ, List, [], ◌∷◌, ◌++◌, codes, length}
use Rattle.std.specs.List.{concat, enumerate_from, flat_map}
use Rattle.std.specs.Fmt.{decimal}

-- a heading that ends with the count, and an empty line
unfoldable pub count_text : List ℕ → ℕ → List ℕ
count_text heading count = concat (heading ∷ decimal count ∷ codes "\n" ∷ codes "\n" ∷ [])

-- the line in front of an item
unfoldable pub index_line : List ℕ → ℕ → List ℕ
index_line name i = concat (name ∷ codes "[" ∷ decimal i ∷ codes "]\n" ∷ [])

-- an item after its line
abbrev pub numbered_item : {X : Type 0} → List ℕ → (X → List ℕ) → ℕ × X → List ℕ
numbered_item name text e = index_line name e.0 ++ text e.1

-- the items in order
abbrev pub numbered_text : {X : Type 0} → List ℕ → (X → List ℕ) → List X → List ℕ
numbered_text name text xs = flat_map (numbered_item name text) (enumerate_from 0 xs)

-- the list after its heading
abbrev pub numbered_list : {X : Type 0} → List ℕ → List ℕ → (X → List ℕ) → List X → List ℕ
numbered_list heading name text xs = count_text heading (length xs) ++ numbered_text name text xs
