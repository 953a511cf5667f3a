-- How deep values nest: the parts of objects and arrays, each within a bound.
use Rattle.std.specs.List.{enumerate_from}
use Rattle.std.proofs.Common.{◌≤◌, ◌++◌, ℕ, Bool, suc, max, List, [], ◌∷◌, Option, Some, None, arith, map}
use Rattle.json.specs.Json.{Json, boolean, string}
use Rattle.json.specs.Tree.{depth, items_depth, members_depth}
use Rattle.crash_json.specs.Tree.{array_of, count, hex_string, items_of, members_of, numbered_array_of, or_null}

-- a value that may be `null`
pub or_null_within : {X : Type 0} (json : X → Json) (bound : ℕ) → ((x : X) → depth (json x) ≤ bound) → (o : Option X) → depth (or_null json o) ≤ bound
or_null_within json bound each None = omega arith
or_null_within json bound each (Some x) = each x

-- a text, a number in hexadecimal, one in decimal and a truth value, each of which may be `null`
pub flat_text : (o : Option (List ℕ)) → depth (or_null string o) ≤ 0
flat_text o = or_null_within string 0 (λ x. omega arith) o

pub flat_hex : (o : Option ℕ) → depth (or_null hex_string o) ≤ 0
flat_hex o = or_null_within hex_string 0 (λ x. omega arith) o

pub flat_count : (o : Option ℕ) → depth (or_null count o) ≤ 0
flat_count o = or_null_within count 0 (λ x. omega arith) o

pub flat_boolean : (o : Option Bool) → depth (or_null boolean o) ≤ 0
flat_boolean o = or_null_within boolean 0 (λ b. omega arith) o

pub ruleset flat = (flat_text, flat_hex, flat_count, flat_boolean)

-- the items of an array
items_within : {X : Type 0} (json : X → Json) (bound : ℕ) → ((x : X) → depth (json x) ≤ bound) → (xs : List X) → items_depth (items_of (map json xs)) ≤ bound
items_within json bound each [] = omega arith
items_within json bound each (x ∷ xs) = omega (arith, each x, items_within json bound each xs)

pub array_within : {X : Type 0} (json : X → Json) (bound : ℕ) → ((x : X) → depth (json x) ≤ bound) → (xs : List X) → depth (array_of json xs) ≤ suc bound
array_within json bound each xs = omega (arith, items_within json bound each xs)

-- the same by the items' numbers
pub numbered_array_within : {X : Type 0} (json : ℕ → X → Json) (bound : ℕ) → ((n : ℕ) (x : X) → depth (json n x) ≤ bound) → (xs : List X)
    → depth (numbered_array_of json xs) ≤ suc bound
numbered_array_within json bound each xs = array_within (λ p. json p.0 p.1) bound (λ p. each p.0 p.1) (enumerate_from 0 xs)

-- members after others
pub both_within : (a b : List (List ℕ × Json)) → members_depth (members_of (a ++ b)) ≤ max (members_depth (members_of a)) (members_depth (members_of b))
both_within [] b = omega arith
both_within (m ∷ a) b = omega (arith, both_within a b)
