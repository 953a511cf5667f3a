-- The status of the program: by what was read of a dump or of the list of paths, by arguments that
-- give no options, and after a failure of the output.
use Rattle.std.specs.Prelude.{ℕ, List, [], Option, Some, Result, Ok}
use Rattle.std.specs.Global.{Vec}
use Rattle.std.specs.declared.io.ErrorKind.{ErrorKind as IoKind}
use Rattle.std.specs.declared.io.ErrorKind.TheVariants as cause
use Rattle.clap.specs.declared.error.kind.ErrorKind.{ErrorKind}
use Rattle.clap.specs.declared.error.kind.ErrorKind.TheVariants as kind
use Rattle.minidump.specs.Below.Reasons.Names.{Lists}
use Rattle.crash.specs.Crash.{crash_in, status_of}

-- the status by what was read of a dump: that of the crash that its bytes hold, with the names of
-- codes of these lists and at most so many candidates a thread; 1 where it has more bytes than the
-- limit, or can't be read
unfoldable pub status_read : {E : Type 0} → Lists → ℕ → Result (Option (Vec ℕ)) E → ℕ
status_read names scan (Ok (Some bytes)) = status_of (crash_in bytes.items names scan)
status_read names scan _ = 1

-- the list of paths by what reading it returned: an empty one if it can't be read or is too large
abbrev pub list_read : {E : Type 0} → Result (Option (Vec ℕ)) E → List ℕ
list_read (Ok (Some bytes)) = bytes.items
list_read _ = []

-- the status before the dumps: 0, or 1 where the list of paths can't be read or is too large
abbrev pub status_before : {E : Type 0} → Result (Option (Vec ℕ)) E → ℕ
status_before (Ok (Some bytes)) = 0
status_before _ = 1

-- the status where the arguments can't be had for an error of this kind: 1 where memory ran out,
-- and else 2, since one isn't UTF-8
abbrev pub status_without : IoKind → ℕ
status_without cause.OutOfMemory = 1
status_without _ = 2

-- the status after arguments for which clap has an error of this kind: 0 where they ask for the
-- help or the version, 1 where memory ran out, and else 2, since they are malformed or refused
abbrev pub status_of_kind : ErrorKind → ℕ
status_of_kind kind.DisplayHelp = 0
status_of_kind kind.DisplayVersion = 0
status_of_kind kind.OutOfMemory = 1
status_of_kind _ = 2

-- the status after the output failed with an error of this kind: that of the dumps before where its
-- pipe was closed, and else 1
abbrev pub status_after : IoKind → ℕ → ℕ
status_after cause.BrokenPipe before = before
status_after _ before = 1
