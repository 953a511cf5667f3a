-- What a call of a reader that remembers a failure does to the bytes that it has left.
use Rattle.std.specs.Prelude.{◌≡◌, ℕ, ◌≤◌, ◌<◌, Bool, true, false, List, length, take, Option, Result, Ok, Err}
use Rattle.std.specs.Io.KnownBytes.{Consumes, IsAtEnd, Keeps}
use Rattle.minidump_bytes.specs.declared.told.DeviceFailed.{DeviceFailed}

-- `Ok(n)`: the next n bytes are at the front of the buffer, and n is 0 only at the end, or if the
-- buffer is empty. `DeviceFailed`: none was taken, and the reader has failed
abbrev pub TakesLeft : {D : Type 0} → (D → Option (List ℕ)) → (D → Bool) → D → D → List ℕ
    → Result ℕ DeviceFailed → Type 0
TakesLeft left failed old new buf (Ok n) =
    (n ≤ length buf) × Consumes (left old) (left new) (take n buf)
    × (n ≡ 0 → 0 < length buf → IsAtEnd (left new)) × (failed new ≡ false)
TakesLeft left failed old new buf (Err _) = Keeps (left old) (left new) × (failed new ≡ true)
