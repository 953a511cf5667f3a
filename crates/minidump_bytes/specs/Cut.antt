-- A text that is taken apart: what a byte cuts it into, and one step after another.
use Rattle.std.specs.Prelude.{ℕ, ◌≡◌, ◌≢◌, ◌++◌, List, ◌∷◌, Option}
use Rattle.std.specs.List.{AllByRecursion}
use Rattle.std.specs.Option.{option_and_then}

-- the next step, with what was found, or nothing where nothing was
abbrev pub and_then : {A B : Type 0} → Option A → (A → Option B) → Option B
and_then found next = option_and_then next found

-- the byte is not among these
abbrev pub Lacks : ℕ → List ℕ → Type 0
Lacks byte bytes = AllByRecursion (λ b. b ≢ byte) bytes

-- the bytes are a front part without the byte, the byte, and a back part
pub record IsCut (byte : ℕ) (bytes front back : List ℕ) : Type 0 where
  pub joined : bytes ≡ front ++ byte ∷ back
  pub lacks : Lacks byte front
