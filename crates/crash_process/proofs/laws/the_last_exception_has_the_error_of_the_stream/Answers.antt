-- The last exception is the stream, so their errors are the same.
use Rattle.std.proofs.Common.{option_and_then, ◌≡◌, ◌∙◌, ◌-◌, List, [], ◌∷◌, Some, ap, arith, length, refl, sym, Err, slice_get, unwrap_or}
use Rattle.std.specs.List.{last_or}
use Rattle.std.specs.Result.{result_err}
use Rattle.minidump.specs.declared.Error.TheVariants.{StreamNotFound}
use Rattle.minidump.specs.Exceptions.{exceptions_in}
use Rattle.crash_process.proofs.laws.the_last_exception_has_the_error_of_the_stream.Goals as goal

-- the last item is that at the last index, where there is one
last_is : {X : Type 0} (none : X) (xs : List X) → last_or (Some none) xs ≡ Some (unwrap_or (slice_get xs (length xs - 1)) none)
last_is none [] = refl
last_is none (x ∷ []) = refl
last_is none (x ∷ y ∷ ys) = grind (arith, last_is none (y ∷ ys))

pub returns : goal.returns
returns c = λ d.
    ap (option_and_then result_err) (sym (last_is (Err StreamNotFound) (exceptions_in d)) ∙ c.last_exception_is_the_stream.ensures d)
