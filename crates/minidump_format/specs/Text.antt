-- What the texts of several streams share: absent values and the end of a line.
use Rattle.std.specs.Prelude.{ℕ, List, [], codes, Option, Some, None}

-- the text of a value, or nothing where it is absent
abbrev pub if_there : {X : Type 0} → (X → List ℕ) → Option X → List ℕ
if_there text (Some x) = text x
if_there text None = []

-- a line feed
unfoldable pub line_end : List ℕ
line_end = codes "\n"
