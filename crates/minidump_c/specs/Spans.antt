-- Texts, one after another in one buffer, and where each lies in it.
use Rattle.std.specs.Prelude.{ℕ, List, [], ◌∷◌, length, Bool, Option, Some, None, if◌then◌else◌, unwrap_or}
use Rattle.minidump_c.specs.declared.spans.Span.{Span}

-- where a text lies that follows these bytes
abbrev pub span_after : List ℕ → List ℕ → Span
span_after before text = record { offset = length before; len = length text }

-- a text, empty where it is absent
abbrev pub text_in : Option (List ℕ) → List ℕ
text_in text = unwrap_or text []

-- 1 for what is there, 0 for what is absent
abbrev pub flag : {A : Type 0} → Option A → ℕ
flag (Some _) = 1
flag None = 0

-- 1 for what is so, 0 for what isn't
abbrev pub bit : Bool → ℕ
bit is_so = if is_so then 1 else 0

-- the rows of items, each by the texts before its own; `row` gives the row of an item, and those texts
-- with its own
abbrev pub rows_after : {X R : Type 0} → (List ℕ → X → R × List ℕ) → List ℕ → List X → List R
rows_after row before [] = []
rows_after row before (x ∷ xs) = (row before x).0 ∷ rows_after row (row before x).1 xs

-- the texts after those items
abbrev pub texts_after : {X R : Type 0} → (List ℕ → X → R × List ℕ) → List ℕ → List X → List ℕ
texts_after row before [] = before
texts_after row before (x ∷ xs) = texts_after row (row before x).1 xs
