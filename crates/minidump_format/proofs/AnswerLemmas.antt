-- The exits of a `?`: what the whole gives where a part of it is an error.
use Rattle.std.proofs.Common.{◌≡◌, Err}
use Rattle.std.specs.Prelude.{Result}
use Rattle.std.specs.Result.{IsErrAnd}
use Rattle.std.proofs.lemmas.Result.{err_from_is_err_and}
use Rattle.minidump_format.specs.Answer.{Gives, GivesError}
use Rattle.minidump_format.specs.declared.error.Error.{Error}
use Rattle.minidump_format.specs.declared.error.Error.TheVariants.{OutOfMemory}

error_passes : {M N A B : Type 0} (e : Error) (part : Result A Error) (whole : Result B Error) → (M → N) → (part ≡ Err e → whole ≡ Err e) → GivesError M e part
    → GivesError N e whole
error_passes OutOfMemory part whole memory rule h = memory h
error_passes e part whole memory rule h = rule h

-- the part's error is the whole's, and memory runs out in the part only where it may in the whole
pub gives_exit : {M N X A B : Type 0} (view : X → B) (r : Result X Error) (e : Error) (part : Result A Error) (whole : Result B Error) → IsErrAnd r (λ y. y ≡ e)
    → (M → N) → GivesError M e part → (part ≡ Err e → whole ≡ Err e) → Gives view N r whole
gives_exit view r e part whole exit memory error rule = let p = err_from_is_err_and r exit in rw (p.1, p.2) (error_passes e part whole memory rule error)
