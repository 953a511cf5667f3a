-- The system information with itself handed in is the same, or has the same error.
use Rattle.std.proofs.Common.{◌≡◌, ℕ, List, Ok, Err, refl}
use Rattle.std.specs.Prelude.{Result}
use Rattle.std.specs.Result.{result_ok}
use Rattle.minidump_bytes.specs.declared.endian.Endian.{Endian}
use Rattle.minidump_format.specs.declared.error.Error.{Error}
use Rattle.minidump_format.specs.declared.format.stream_type.MINIDUMP_STREAM_TYPE.TheVariants.{SystemInfoStream}
use Rattle.minidump_format.specs.StreamType.{number_of}
use Rattle.minidump_system.specs.SystemInfo.{System, system_info_in, system_read}
use Rattle.minidump.specs.Dump.{Dump, own_system, raw_stream, stream_of}
use Rattle.minidump.specs.Promise.{system_info_stream}

read_again : (bytes file : List ℕ) (order : Endian) (x : Result System Error) → system_read order file bytes ≡ x
    → system_info_in order file bytes (result_ok x) ≡ x
read_again bytes file order (Ok s) is = refl
read_again bytes file order (Err e) is = is

by_bytes : (d : Dump) (x : Result (List ℕ) Error) → raw_stream (number_of SystemInfoStream) d ≡ x → stream_of system_info_stream d ≡ own_system d
by_bytes d (Ok b) is = rw is (read_again b d.file d.order (system_read d.order d.file b) refl)
by_bytes d (Err e) is = rw is refl

pub own_system_is : (d : Dump) → stream_of system_info_stream d ≡ own_system d
own_system_is d = by_bytes d (raw_stream (number_of SystemInfoStream) d) refl
