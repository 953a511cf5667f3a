-- How a field is added to a message, by a table of its fields. What the fields of a message mean is
-- StabilityReport.antt.
use Rattle.std.specs.Prelude.{ℕ, List, [], ◌∷◌, ◌++◌, ◌==◌, Option, Some, unwrap_or, if◌then◌else◌}
use Rattle.std.specs.Option.{option_and_then, option_map}
use Rattle.minidump_bytes.specs.Wire.{Field, Payload}
use Rattle.minidump_stability.specs.Fields.{both, fields_in, message_in}

-- a message with several fields added, one after another
module _ {V : Type 0} (put : Field → V → Option V) where
  abbrev pub puts : List Field → V → Option V
  puts [] v = Some v
  puts (f ∷ fs) v = option_and_then (puts fs) (put f v)

-- a message with these fields added; none where there is no list of fields
abbrev pub put_fields : {V : Type 0} → (Field → V → Option V) → Option (List Field) → V → Option V
put_fields put fields v = option_and_then (λ fs. puts put fs v) fields

-- a message with the fields added that bytes spell
abbrev pub put_bytes : {V : Type 0} → (Field → V → Option V) → List ℕ → V → Option V
put_bytes put bytes v = put_fields put (fields_in bytes) v

-- ---- rows
-- the fields of a number change a value, others don't
abbrev pub only : {X : Type 0} → ℕ → (Payload → X → Option X) → Field → X → Option X
only number change f x = if f.number == number then change f.payload x else Some x

-- a row above others
abbrev pub row : {X W : Type 0} → ℕ → (Payload → X → Option X) → (Field → W → Option W) → Field
    → X × W → Option (X × W)
row number change rest f v = both (only number change f v.0) (rest f v.1)

-- a scalar of a payload replaces the one before
abbrev pub one_scalar : {N : Type 0} → (Payload → Option N) → Payload → Option (Option N)
one_scalar value p = option_map Some (value p)

-- the same, as a row has it
abbrev pub scalar_row : {N : Type 0} → (Payload → Option N) → Payload → Option N → Option (Option N)
scalar_row value p old = one_scalar value p

-- the fields of a payload are added to the message that is there
abbrev pub one_nested : {M : Type 0} → (Field → M → Option M) → M → Payload → Option M
    → Option (Option M)
one_nested put empty p old = option_map Some (put_fields put (message_in p) (unwrap_or old empty))

-- the message of a payload comes after those before
abbrev pub one_repeated : {M : Type 0} → (Field → M → Option M) → M → Payload → List M
    → Option (List M)
one_repeated put empty p old = option_map (λ m. old ++ m ∷ []) (put_fields put (message_in p) empty)

-- a table on a message whose fields are a tuple: `tuple_of` the message, and back by `of_tuple`
abbrev pub through : {V W : Type 0} → (V → W) → (W → V) → (Field → W → Option W) → Field → V
    → Option V
through tuple_of of_tuple put f v = option_map of_tuple (put f (tuple_of v))
