-- Which exception of a dump counts: the one that its crash is told of.
use Rattle.std.specs.Prelude.{ℕ, ◌==◌, Bool, false, not, List, Option, Result, Ok, Err, slice_get}
use Rattle.std.specs.Option.{option_and_then, option_or}
use Rattle.std.specs.Result.{is_ok, result_ok}
use Rattle.minidump.specs.declared.Error.{Error}
use Rattle.minidump.specs.Exception.{Exception}
use Rattle.crash_streams.specs.Contents.{ContentsValue}
use Rattle.crash_threads.specs.Last.{last_index}

-- an exception tells of a crash: its code isn't 0
abbrev pub has_code : Result Exception Error → Bool
has_code (Ok e) = not (e.raw.exception_record.exception_code == 0)
has_code (Err _) = false

-- the index of the exception that counts: the last whose code isn't 0, else the last that can be
-- read
abbrev pub counting : List (Result Exception Error) → Option ℕ
counting exceptions = option_or (last_index has_code exceptions) (last_index is_ok exceptions)

-- the exception of an index, where it can be read
abbrev pub counted : {X : Type 0} → List (Result X Error) → Option ℕ → Option X
counted exceptions counts =
    option_and_then result_ok (option_and_then (slice_get exceptions) counts)

-- the exception that counts
abbrev pub counting_exception : ContentsValue → Option Exception
counting_exception c = counted c.threads.exceptions (counting c.threads.exceptions)
