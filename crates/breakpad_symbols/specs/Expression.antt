-- Expressions of STACK CFI rules, in postfix form.
use Rattle.std.specs.Prelude.{ℕ, ◌+◌, ◌-◌, ◌*◌, ◌/◌, ◌%◌, List, [], ◌∷◌, codes, Option, Some, None, nat_lt}
use Rattle.std.specs.Prelude.{if◌then◌else◌}
use Rattle.std.specs.Option.{option_map, option_or}
use Rattle.std.specs.Str.{bytes_eq}
use Rattle.minidump_bytes.specs.Digits.{number_of_digits}
use Rattle.minidump_bytes.specs.LinuxOsStr.{after_prefix}
use Rattle.breakpad_symbols.specs.declared.expression.Operator.{Operator}
use Rattle.breakpad_symbols.specs.declared.expression.Operator.TheVariants.{Add, Subtract}
use Rattle.breakpad_symbols.specs.declared.expression.Operator.TheVariants.{Multiply, Divide}
use Rattle.breakpad_symbols.specs.declared.expression.Operator.TheVariants.{Remainder, Align}
use Rattle.breakpad_symbols.specs.AddressWidth.{cut, negative}
use Rattle.minidump_bytes.specs.Cut.{and_then}

-- what rules can refer to: the number of bits of an address, the registers by their names, and the
-- words of memory, as wide as an address
pub record StateValue : Type 0 where
  pub bits : ℕ
  pub register : List ℕ → Option ℕ
  pub word : ℕ → Option ℕ

-- the operators of two values
unfoldable pub operator : List ℕ → Option Operator
operator word =
    if bytes_eq word (codes "+") then Some Add else (
    if bytes_eq word (codes "-") then Some Subtract else (
    if bytes_eq word (codes "*") then Some Multiply else (
    if bytes_eq word (codes "/") then Some Divide else (
    if bytes_eq word (codes "%") then Some Remainder else (
    if bytes_eq word (codes "@") then Some Align else None)))))

-- a value, unless the divisor is 0
abbrev pub unless_zero : ℕ → ℕ → Option ℕ
unless_zero divisor value = if nat_lt 0 divisor then Some value else None

-- what an operator makes of two values, none of which has a sign; `@` is the greatest multiple of the
-- second that isn't above the first
unfoldable pub apply : ℕ → Operator → ℕ → ℕ → Option ℕ
apply bits Add a b = Some (cut bits (a + b))
apply bits Subtract a b = Some (cut bits (a + negative bits b))
apply bits Multiply a b = Some (cut bits (a * b))
apply bits Divide a b = unless_zero b (a / b)
apply bits Remainder a b = unless_zero b (a % b)
apply bits Align a b = unless_zero b (a - a % b)

-- the last two values are replaced by what an operator makes of them
abbrev pub apply_on : ℕ → Operator → List ℕ → Option (List ℕ)
apply_on bits op (b ∷ a ∷ rest) = option_map (λ v. v ∷ rest) (apply bits op a b)
apply_on bits op (b ∷ []) = None
apply_on bits op [] = None

-- the word of memory at an address
abbrev pub word_at : StateValue → ℕ → Option ℕ
word_at state address = option_map (cut state.bits) (state.word address)

-- the last value is replaced by the word of memory at that address
abbrev pub read_on : StateValue → List ℕ → Option (List ℕ)
read_on state (address ∷ rest) = option_map (λ v. v ∷ rest) (word_at state address)
read_on state [] = None

-- the number of a word: decimal digits, with a minus sign in front for a negative one
unfoldable pub literal : ℕ → List ℕ → Option ℕ
literal bits word =
    option_or (number_of_digits 10 bits word)
    (and_then (after_prefix (codes "-") word) (λ digits.
    option_map (negative bits) (number_of_digits 10 bits digits)))

-- the value of a word: a number, the canonical frame address where it is known, or the value of a
-- register
unfoldable pub operand : StateValue → Option ℕ → List ℕ → Option ℕ
operand state frame_address word =
    option_or (literal state.bits word)
    (option_map (cut state.bits) (if bytes_eq word (codes ".cfa") then frame_address else state.register word))

-- what a word does to the values so far, the last one first; nothing, where it has no meaning there
abbrev pub by_operator : StateValue → Option ℕ → List ℕ → List ℕ → Option Operator → Option (List ℕ)
by_operator state frame_address word values (Some op) = apply_on state.bits op values
by_operator state frame_address word values None =
    if bytes_eq word (codes "^") then read_on state values
    else option_map (λ v. v ∷ values) (operand state frame_address word)

-- the same, by the word
abbrev pub step : StateValue → Option ℕ → List ℕ → List ℕ → Option (List ℕ)
step state frame_address word values = by_operator state frame_address word values (operator word)

-- a value that is the only one
abbrev pub only : List ℕ → Option ℕ
only (v ∷ []) = Some v
only _ = None

-- the value of an expression's words after these values
unfoldable pub value_from : StateValue → Option ℕ → List (List ℕ) → List ℕ → Option ℕ
value_from state frame_address [] values = only values
value_from state frame_address (word ∷ words) values =
    and_then (step state frame_address word values) (value_from state frame_address words)

-- the value of an expression, by what it refers to and the canonical frame address
abbrev pub value_of : StateValue → Option ℕ → List (List ℕ) → Option ℕ
value_of state frame_address words = value_from state frame_address words []
