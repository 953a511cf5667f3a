-- Which error of a stream says that the stream is missing.
use Rattle.std.specs.Prelude.{Bool, false, true}
use Rattle.minidump.specs.declared.Error.{Error}
use Rattle.minidump.specs.declared.Error.TheVariants.{StreamNotFound}

-- whether an error is that of a stream that is missing; any other is that of one that can't be read
abbrev pub is_missing : Error → Bool
is_missing StreamNotFound = true
is_missing e = false
