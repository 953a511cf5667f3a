-- JSON values of lists of members and of items, and their tokens.
use Rattle.std.specs.Prelude.{◌≡◌, ℕ, List, [], ◌∷◌, ◌++◌, map, Option, Some, None, OnOk}
use Rattle.std.specs.Prelude.{Result, decimal}
use Rattle.std.specs.declared.alloc.AllocError.{AllocError}
use Rattle.std.specs.List.{enumerate_from, flat_map}
use Rattle.json.specs.Json.{Json, null, number, string, array, object, Items, no_items, item}
use Rattle.json.specs.Json.{Members, no_members, member}
use Rattle.json.specs.Token.{Token}
use Rattle.json.specs.Tree.{json_tokens}
use Rattle.json.specs.Written.{Written}
use Rattle.minidump_bytes.specs.Piece.{hex}

-- ---- values

-- the items of a list, in its order
abbrev pub items_of : List Json → Items
items_of [] = no_items
items_of (j ∷ js) = item j (items_of js)

-- the members of a list, each with its name, in its order
abbrev pub members_of : List (List ℕ × Json) → Members
members_of [] = no_members
members_of (m ∷ ms) = member m.0 m.1 (members_of ms)

-- the object of these members
abbrev pub object_of : List (List ℕ × Json) → Json
object_of ms = object (members_of ms)

-- the array of the values of a list's items
abbrev pub array_of : {X : Type 0} → (X → Json) → List X → Json
array_of json xs = array (items_of (map json xs))

-- the same by the items' numbers, from 0 on
abbrev pub numbered_array_of : {X : Type 0} → (ℕ → X → Json) → List X → Json
numbered_array_of json xs = array_of (λ p. json p.0 p.1) (enumerate_from 0 xs)

-- a number in decimal
abbrev pub count : ℕ → Json
count n = number (decimal n)

-- the text of a number in hexadecimal, after `0x`, without leading zeros
unfoldable pub hex_text : ℕ → List ℕ
hex_text n = hex n

-- a number in hexadecimal, as a text
abbrev pub hex_string : ℕ → Json
hex_string n = string (hex_text n)

-- a value, or `null` where there is none
abbrev pub or_null : {X : Type 0} → (X → Json) → Option X → Json
or_null json None = null
or_null json (Some x) = json x

-- ---- tokens

-- the tokens of a member
abbrev pub member_tokens : List ℕ × Json → List Token
member_tokens m = Token.key m.0 ∷ json_tokens m.1

-- those of members, one after another, without brackets
unfoldable pub member_list_tokens : List (List ℕ × Json) → List Token
member_list_tokens ms = flat_map member_tokens ms

-- the tokens of a value come after those that were there; or memory ran out
pub record Puts (r : Result (Unit {0}) AllocError) (old new : Written) (j : Json) : Type 0 where
  pub tokens : OnOk r (new.tokens ≡ old.tokens ++ json_tokens j)
  pub before : new.before ≡ old.before

-- the tokens of members come after those that were there; or memory ran out
pub record Adds (r : Result (Unit {0}) AllocError) (old new : Written)
    (ms : List (List ℕ × Json)) : Type 0 where
  pub tokens : OnOk r (new.tokens ≡ old.tokens ++ member_list_tokens ms)
  pub before : new.before ≡ old.before
