-- The names of the errors.
use Rattle.std.specs.Prelude.{ℕ, List, codes}
use Rattle.minidump_format.specs.declared.error.Error.{Error}
use Rattle.minidump_format.specs.declared.error.Error.TheVariants.{FileNotFound, IoError}
use Rattle.minidump_format.specs.declared.error.Error.TheVariants.{MissingHeader, HeaderMismatch}
use Rattle.minidump_format.specs.declared.error.Error.TheVariants.{VersionMismatch}
use Rattle.minidump_format.specs.declared.error.Error.TheVariants.{MissingDirectory}
use Rattle.minidump_format.specs.declared.error.Error.TheVariants.{StreamReadFailure}
use Rattle.minidump_format.specs.declared.error.Error.TheVariants.{StreamSizeMismatch}
use Rattle.minidump_format.specs.declared.error.Error.TheVariants.{StreamNotFound}
use Rattle.minidump_format.specs.declared.error.Error.TheVariants.{ModuleReadFailure}
use Rattle.minidump_format.specs.declared.error.Error.TheVariants.{MemoryReadFailure, DataError}
use Rattle.minidump_format.specs.declared.error.Error.TheVariants.{CodeViewReadFailure}
use Rattle.minidump_format.specs.declared.error.Error.TheVariants.{UknownElementType, OutOfMemory}

-- the name of an error; that of `UknownElementType` is `UnknownElementType`
abbrev pub name_of_error : Error → List ℕ
name_of_error FileNotFound = codes "FileNotFound"
name_of_error IoError = codes "IoError"
name_of_error MissingHeader = codes "MissingHeader"
name_of_error HeaderMismatch = codes "HeaderMismatch"
name_of_error VersionMismatch = codes "VersionMismatch"
name_of_error MissingDirectory = codes "MissingDirectory"
name_of_error StreamReadFailure = codes "StreamReadFailure"
name_of_error (StreamSizeMismatch expected actual) = codes "StreamSizeMismatch"
name_of_error StreamNotFound = codes "StreamNotFound"
name_of_error ModuleReadFailure = codes "ModuleReadFailure"
name_of_error MemoryReadFailure = codes "MemoryReadFailure"
name_of_error DataError = codes "DataError"
name_of_error CodeViewReadFailure = codes "CodeViewReadFailure"
name_of_error UknownElementType = codes "UnknownElementType"
name_of_error OutOfMemory = codes "OutOfMemory"
