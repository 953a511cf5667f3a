-- Lemmas on the streams that several parts of a report print.
use Rattle.std.specs.Prelude.{◌≡◌, ◌≢◌, Option, Result, Ok, Err}
use Rattle.std.proofs.Common.{ap, refl}
use Rattle.std.specs.Option.{option_map}
use Rattle.std.specs.Result.{result_ok}
use Rattle.minidump_format.specs.declared.error.Error.{Error}
use Rattle.minidump_format.specs.declared.error.Error.TheVariants.{OutOfMemory}
use Rattle.minidump_system.specs.StreamSpec.{StreamSpec}
use Rattle.minidump.specs.Dump.{Dump, IsStreamOf, stream_of}
use Rattle.minidump.proofs.ReportLemmas.{assigned_as}

-- a stream that was found, or none
pub found_stream : {S V : Type 0} (spec : StreamSpec S V) (d : Dump) (r : Result S Error) (o : Option S) → IsStreamOf spec d r
    → (o ≡ result_ok r) × (r ≢ Err OutOfMemory) → option_map spec.value o ≡ result_ok (stream_of spec d)
found_stream spec d (Ok x) o is found = rw (found.0, is) refl
found_stream spec d (Err e) o is found = rw (found.0, assigned_as _ e (stream_of spec d) (λ same. found.1 (ap Err same)) is) refl
