-- What a call that prints does to its writer, by its result.
use Rattle.std.specs.Prelude.{◌≡◌, ℕ, List, Option, Result, Ok, Err, if◌then◌else◌}
use Rattle.minidump_bytes.specs.declared.told.Told.{Told}
use Rattle.minidump_bytes.specs.Told.{PutsAll, PutsPrefix, has_failed}
use Rattle.minidump_format.specs.declared.error.Error.{Error}
use Rattle.minidump_format.specs.declared.error.Error.TheVariants.{IoError, OutOfMemory}

-- the error of a call that ran out of memory: IoError if the writer has failed
abbrev pub out_of_memory : {D : Type 0} → Told D → Error
out_of_memory t = if has_failed t then IoError else OutOfMemory

-- `Ok`: the writer took all of the text. `Err`: it took a prefix; the error is IoError where it has
-- failed, and else OutOfMemory
abbrev pub Prints : {D : Type 0} → (D → Option (List ℕ)) → Told D → Told D → List ℕ
    → Result (Unit {0}) Error → Type 0
Prints contents old new text (Ok _) = PutsAll contents old new text
Prints contents old new text (Err e) = PutsPrefix contents old new text × (e ≡ out_of_memory new)
