-- What is found in the values of items.
use Rattle.std.proofs.Common.{◌≡◌, ◌∙◌, ◌-◌, Bool, List, [], ◌∷◌, Option, ap, length, map, refl, sym, take}
use Rattle.std.proofs.lemmas.List.{length-map}
pub use Rattle.std.proofs.lemmas.List.{drop-map, take-map}
use Rattle.std.specs.List.{cons_option, filter_map, position, position_or_len}

-- the values of the items before the last (cited by `crash`)
pub values_before : {X V : Type 0} (value : X → V) (xs : List X) → map value (take (length xs - 1) xs) ≡ take (length (map value xs) - 1) (map value xs)
values_before value xs = sym (take-map value (length xs - 1) xs) ∙ ap (λ n. take (n - 1) (map value xs)) (sym (length-map xs value))

-- what is found in the values of items (cited by `crash`)
pub found_in_values : {X V D : Type 0} (value : X → V) (find : V → Option D) (xs : List X) → filter_map (λ x. find (value x)) xs ≡ filter_map find (map value xs)
found_in_values value find [] = refl
found_in_values value find (x ∷ xs) = ap (cons_option (find (value x))) (found_in_values value find xs)

from_first : {X Y : Type 0} (p : Y → Bool) (f : X → Y) (xs : List X) → position_or_len p (map f xs) ≡ position_or_len (λ x. p (f x)) xs
from_first p f [] = refl
from_first p f (x ∷ xs) = rw (from_first p f xs) refl

-- the first value that passes is that of the first item whose value passes
pub first_value : {X Y : Type 0} (p : Y → Bool) (f : X → Y) (xs : List X) → position p (map f xs) ≡ position (λ x. p (f x)) xs
first_value p f xs = rw (from_first p f xs, length-map xs f) refl

-- the values around the first that passes
pub ruleset around_first = (first_value, take-map, drop-map)
