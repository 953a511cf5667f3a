-- What the fields of a message mean, as the encoding guide of Protocol Buffers has it.
use Rattle.std.specs.Prelude.{◌≡◌, ℕ, ℤ, pos, ◌-ℤ◌, ◌+◌, ◌%◌, ◌^◌, ◌==◌, nat_lt, List, [], ◌∷◌, ◌++◌}
use Rattle.std.specs.Prelude.{Option, Some, None, unwrap_or, if◌then◌else◌}
use Rattle.std.specs.List.{flat_map, sum_by}
use Rattle.std.specs.Option.{option_and_then, option_map, option_or}
use Rattle.minidump_bytes.specs.Wire.{Bytes, Eight, Field, Four, Payload, SpellsFields, Varint, field_in}

-- the values of all, or none where one has none
abbrev pub each : {A B : Type 0} → (A → Option B) → List A → Option (List B)
each value [] = Some []
each value (x ∷ xs) = option_and_then (λ y. option_map (λ ys. y ∷ ys) (each value xs)) (value x)

-- two values, or none where one is absent
abbrev pub both : {A B : Type 0} → Option A → Option B → Option (A × B)
both a b = option_and_then (λ x. option_map (λ y. (x, y)) b) a

-- the first value that an item has
abbrev pub first : {A B : Type 0} → (A → Option B) → List A → Option B
first value [] = None
first value (x ∷ xs) = option_or (value x) (first value xs)

-- ---- the fields as a function: by the law `fields_are_what_bytes_spell`, bytes spell exactly
-- these

-- the cuts of a byte and what follows it, by a cut of what follows: the byte is a piece of its own,
-- or begins the first piece
abbrev pub with_byte : ℕ → List (List ℕ) → List (List (List ℕ))
with_byte b [] = ((b ∷ []) ∷ []) ∷ []
with_byte b (piece ∷ pieces) = ((b ∷ []) ∷ piece ∷ pieces) ∷ ((b ∷ piece) ∷ pieces) ∷ []

-- every cut of bytes into pieces, none of which is empty
unfoldable pub cuts : List ℕ → List (List (List ℕ))
cuts [] = [] ∷ []
cuts (b ∷ bs) = flat_map (with_byte b) (cuts bs)

-- a field after which no byte is left
abbrev pub whole : Field × List ℕ → Option Field
whole (f, []) = Some f
whole (f, b ∷ bs) = None

-- the field that a piece spells
unfoldable pub field_of_piece : List ℕ → Option Field
field_of_piece piece = option_and_then whole (field_in piece)

-- the fields that bytes spell: those of the cut whose pieces are fields, of which there is at most
-- one
unfoldable pub fields_in : List ℕ → Option (List Field)
fields_in bytes = first (each field_of_piece) (cuts bytes)

-- ---- what fields hold
-- the bytes begin with fields, of which the last is of a kind. The bytes after it may be no fields
pub record HasField (kind : Field → Type 0) (bytes : List ℕ) : Type 0 where
  pub front : List ℕ
  pub back : List ℕ
  pub before : List Field
  pub field : Field
  pub whole : bytes ≡ front ++ back
  pub spelled : SpellsFields front (before ++ field ∷ [])
  pub is_kind : kind field

-- the payloads of the fields with a number, in their order
abbrev pub payloads : ℕ → List Field → List Payload
payloads number [] = []
payloads number (f ∷ fs) =
    if f.number == number then f.payload ∷ payloads number fs else payloads number fs

-- uint32: the low 32 bits of a varint
abbrev pub uint32_in : Payload → Option ℕ
uint32_in (Varint n) = Some (n % 2 ^ 32)
uint32_in (Eight n) = None
uint32_in (Bytes bytes) = None
uint32_in (Four n) = None

-- int64: a varint in two's complement
abbrev pub int64_in : Payload → Option ℤ
int64_in (Varint n) = Some (if nat_lt n (2 ^ 63) then pos n else pos n -ℤ pos (2 ^ 64))
int64_in (Eight n) = None
int64_in (Bytes bytes) = None
int64_in (Four n) = None

-- a message: the fields that its bytes spell
abbrev pub message_in : Payload → Option (List Field)
message_in (Varint n) = None
message_in (Eight n) = None
message_in (Bytes bytes) = fields_in bytes
message_in (Four n) = None

-- the last of some values, or the old one where there are none
abbrev pub last_of : {N : Type 0} → List N → Option N → Option N
last_of [] old = old
last_of (n ∷ ns) old = last_of ns (Some n)

-- a scalar is its last value
abbrev pub scalar : {N : Type 0} → (Payload → Option N) → ℕ → List Field → Option (Option N)
scalar value number fs = option_map (λ ns. last_of ns None) (each value (payloads number fs))

-- the fields of several messages, one after another
abbrev pub join : List (List Field) → List Field
join [] = []
join (fs ∷ more) = fs ++ join more

-- the message of the fields of several messages, one after another; absent where there are none
abbrev pub merge_messages : {M : Type 0} → (List Field → Option M) → List (List Field)
    → Option (Option M)
merge_messages message [] = Some None
merge_messages message (fs ∷ more) = option_map Some (message (join (fs ∷ more)))

-- a nested message is the message of the fields of all its payloads, one after another
abbrev pub nested : {M : Type 0} → (List Field → Option M) → ℕ → List Field → Option (Option M)
nested message number fs =
    option_and_then (merge_messages message) (each message_in (payloads number fs))

-- a repeated message is one for each payload
abbrev pub repeated : {M : Type 0} → (List Field → Option M) → ℕ → List Field → Option (List M)
repeated message number fs = option_and_then (each message) (each message_in (payloads number fs))

-- ---- how many fields there are
-- how many fields a list has, including those inside them, of which `inside` is the number
abbrev pub field_count : (Field → ℕ) → List Field → ℕ
field_count inside fs = sum_by (λ f. 1 + inside f) fs

-- how many fields the message in a payload has
abbrev pub count_in : (Field → ℕ) → Payload → ℕ
count_in inside p = field_count inside (unwrap_or (message_in p) [])

-- how many fields are inside a field, if it has this number; it holds a message then
abbrev pub within : ℕ → (Field → ℕ) → Field → ℕ
within number inside f = if f.number == number then count_in inside f.payload else 0

-- a scalar has no fields inside
abbrev pub none_within : Field → ℕ
none_within f = 0
