-- The output of a run: what it took, and why it failed.
use Rattle.std.specs.Prelude.{◌≡◌, ℕ, List, IsSome, Option, Result, Ok, Err}
use Rattle.std.specs.Io.KnownBytes.{Appends}
use Rattle.std.specs.declared.io.Error.{Error}
use Rattle.whocrashed.specs.declared.output.Output.{Output}
use Rattle.whocrashed.specs.declared.output.Stopped.{Stopped}
use Rattle.whocrashed.specs.declared.output.Stopped.TheVariants.{NoMemory, NoOutput}

-- why it failed, if it did
abbrev pub failure_of : {O : Type 0} → Output O → Option Error
failure_of out = out.failure

-- its bytes, where they are known, grew by all of a text, and why it failed is unchanged
pub record Writes {O : Type 0} (contents : O → Option (List ℕ)) (old new : Output O)
    (text : List ℕ) : Type 0 where
  pub grown : Appends (contents old.to) (contents new.to) text
  pub same_failure : failure_of new ≡ failure_of old

-- it grew by some text of which `is` holds
abbrev pub Gains : {O : Type 0} → (O → Option (List ℕ)) → Output O → Output O
    → (List ℕ → Type 0) → Type 0
Gains contents old new is = (text : List ℕ) × is text × Writes contents old new text

-- by what a call returned: at `Ok x` it grew by a text of which `is x` holds; where memory ran out by
-- one of which `begun` holds; and else it has failed
abbrev pub GainsBy : {O X : Type 0} → (O → Option (List ℕ)) → Output O → Output O
    → (X → List ℕ → Type 0) → (List ℕ → Type 0) → Result X Stopped → Type 0
GainsBy contents old new is begun (Ok x) = Gains contents old new (is x)
GainsBy contents old new is begun (Err (NoMemory _)) = Gains contents old new begun
GainsBy contents old new is begun (Err NoOutput) = IsSome (failure_of new)
