-- When a call returns what the format assigns.
use Rattle.std.specs.Prelude.{◌≡◌, Result, Ok, Err}
use Rattle.minidump_format.specs.declared.error.Error.{Error}
use Rattle.minidump_format.specs.declared.error.Error.TheVariants.{OutOfMemory}

-- the error is the assigned one, or OutOfMemory where the call may take memory
abbrev pub GivesError : {V : Type 0} → Type 0 → Error → Result V Error → Type 0
GivesError memory OutOfMemory assigned = memory
GivesError memory e assigned = assigned ≡ Err e

-- the view of the value, or the error, is the assigned one; or the error is OutOfMemory where the
-- call may take memory
abbrev pub Gives : {X V : Type 0} → (X → V) → Type 0 → Result X Error → Result V Error → Type 0
Gives view memory (Ok x) assigned = assigned ≡ Ok (view x)
Gives view memory (Err e) assigned = GivesError memory e assigned
