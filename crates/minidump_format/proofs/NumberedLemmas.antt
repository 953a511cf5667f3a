-- Lemmas on the text of a list whose items stand after their indices.
use Rattle.std.specs.Prelude.{◌≡◌, ℕ, ◌+◌, List, [], ◌∷◌, ◌++◌, length, map}
use Rattle.std.specs.List.{enumerate_from, flat_map}
use Rattle.std.proofs.Common.{ap, refl}
use Rattle.std.proofs.lemmas.List.{length-map}
use Rattle.minidump_format.specs.Numbered.{count_text, numbered_item, numbered_list}

-- the text of values is that of what has these values
mapped_from : {X Y : Type 0} → (name : List ℕ) (text : Y → List ℕ) (v : X → Y) (xs : List X) (a : ℕ)
    → flat_map (numbered_item name text) (enumerate_from a (map v xs)) ≡ flat_map (numbered_item name (λ x. text (v x))) (enumerate_from a xs)
mapped_from name text v [] a = refl
mapped_from name text v (x ∷ xs) a = ap (λ t. numbered_item name text (a, v x) ++ t) (mapped_from name text v xs (a + 1))

pub numbered_list_map : {X Y : Type 0} → (heading name : List ℕ) (text : Y → List ℕ) (v : X → Y) (xs : List X)
    → numbered_list heading name text (map v xs) ≡ numbered_list heading name (λ x. text (v x)) xs
numbered_list_map heading name text v xs = rw (length-map xs v) (ap (λ t. count_text heading (length xs) ++ t) (mapped_from name text v xs 0))
