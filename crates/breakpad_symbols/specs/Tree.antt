-- Expressions of rules as trees.
use Rattle.std.specs.Prelude.{◌≡◌, ℕ, List, [], ◌∷◌, ◌++◌, codes, Option, Some, None, if◌then◌else◌}
use Rattle.std.specs.Str.{bytes_eq}
use Rattle.breakpad_symbols.specs.declared.expression.Operator.{Operator}
use Rattle.breakpad_symbols.specs.Expression.{StateValue, apply, operand, operator, word_at}
use Rattle.minidump_bytes.specs.Cut.{and_then}

-- a word that is a number, a register or the frame address; the word of memory at an address; an
-- operator's word and its operands
pub data Tree : Type 0 where
  Leaf : (word : List ℕ) → Tree
  Memory : (address : Tree) → Tree
  Both : (word : List ℕ) (a b : Tree) → Tree

-- the words of an expression: the operands, and after them the operator
unfoldable pub tree_words : Tree → List (List ℕ)
tree_words (Leaf word) = word ∷ []
tree_words (Memory address) = tree_words address ++ codes "^" ∷ []
tree_words (Both word a b) = tree_words a ++ tree_words b ++ word ∷ []

-- a value, where the word is no operator
abbrev pub unless_operator : Option Operator → Option ℕ → Option ℕ
unless_operator None value = value
unless_operator (Some op) value = None

-- the value of an expression, by what it refers to and the canonical frame address
unfoldable pub tree_value : StateValue → Option ℕ → Tree → Option ℕ
tree_value state frame_address (Leaf word) =
    unless_operator (operator word)
    (if bytes_eq word (codes "^") then None else operand state frame_address word)
tree_value state frame_address (Memory address) =
    and_then (tree_value state frame_address address) (word_at state)
tree_value state frame_address (Both word a b) =
    and_then (operator word) (λ op.
    and_then (tree_value state frame_address a) (λ x.
    and_then (tree_value state frame_address b) (λ y.
    apply state.bits op x y)))

-- words are an expression of this value
abbrev pub HasValue : StateValue → Option ℕ → List (List ℕ) → ℕ → Type 0
HasValue state frame_address words value =
    (tree : Tree) × (words ≡ tree_words tree) × (tree_value state frame_address tree ≡ Some value)
