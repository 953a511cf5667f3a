-- What reading a reader to its end, or a file by its path, answers, and what it leaves in the lent
-- vector.
use Rattle.std.specs.Prelude.{◌≡◌, ℕ, Bool, true, false, List, [], Option, Some, None, Result, Ok, Err, IfSome, ⊤}
use Rattle.std.specs.Io.KnownBytes.{Consumes}
use Rattle.minidump_format.specs.declared.error.Error.{Error}
use Rattle.minidump_format.specs.declared.error.Error.TheVariants.{FileNotFound, IoError, OutOfMemory}
use Rattle.minidump.specs.declared.dump.Minidump.{Minidump}
use Rattle.minidump.specs.Dump.{Dump, dump_in}
use Rattle.minidump.specs.DumpValue.{dump_of}

-- the bytes are all that the reader had left, as far as it tells
abbrev pub IsWhole : {F : Type 0} → (F → Option (List ℕ)) → F → List ℕ → Type 0
IsWhole left reader bytes = IfSome (left reader) (λ all. bytes ≡ all)

-- the bytes that the reader has left, as far as it tells, are this minidump
abbrev pub IsWholeDump : {F : Type 0} → (F → Option (List ℕ)) → F → Dump → Type 0
IsWholeDump left reader dump = IsWhole left reader dump.file × (dump_in dump.file ≡ Ok dump)

-- the bytes that the reader has left are no minidump, and this is the error
abbrev pub IsReaderError : {F : Type 0} → (F → Option (List ℕ)) → F → Error → Type 0
IsReaderError left reader e = (bytes : List ℕ) × IsWhole left reader bytes × (dump_in bytes ≡ Err e)

-- What reading a minidump from a reader answers: IoError exactly where the reader has failed by
-- then, else what its bytes are, or OutOfMemory
abbrev pub ReadsFrom : {F : Type 0} → (F → Option (List ℕ)) → (F → Bool) → F → F → Result Minidump Error → Type 0
ReadsFrom left failed old new (Ok d) = (failed new ≡ false) × IsWholeDump left old (dump_of d)
ReadsFrom left failed old new (Err IoError) = failed new ≡ true
ReadsFrom left failed old new (Err OutOfMemory) = failed new ≡ false
ReadsFrom left failed old new (Err e) = (failed new ≡ false) × IsReaderError left old e

-- Below, `opens path answer` says what opening a path answers: a file, at its start, or none.

-- the path was opened, and of the file this holds
abbrev pub IsOfFile : {F : Type 0} → (List ℕ → Option F → Type 0) → List ℕ → (F → Type 0) → Type 0
IsOfFile {F} opens path Holds = (file : F) × opens path (Some file) × Holds file

-- the bytes are all those of the file that the path opens
abbrev pub IsFile : {F : Type 0} → (List ℕ → Option F → Type 0) → (F → Option (List ℕ)) → List ℕ → List ℕ → Type 0
IsFile opens left path bytes = IsOfFile opens path (λ file. IsWhole left file bytes)

-- that file is a minidump
abbrev pub IsFileDump : {F : Type 0} → (List ℕ → Option F → Type 0) → (F → Option (List ℕ)) → List ℕ → Dump → Type 0
IsFileDump opens left path dump = IsOfFile opens path (λ file. IsWholeDump left file dump)

-- what a reader has left now, it had left before, after the bytes that it gave
abbrev pub IsLater : {F : Type 0} → (F → Option (List ℕ)) → F → F → Type 0
IsLater left old new = (given : List ℕ) × Consumes (left old) (left new) given

-- the path was opened, and the file has failed as it was read
abbrev pub IsUnreadable : {F : Type 0} → (List ℕ → Option F → Type 0) → (F → Option (List ℕ)) → (F → Bool)
    → List ℕ → Type 0
IsUnreadable {F} opens left failed path =
    IsOfFile opens path (λ file. (later : F) × IsLater left file later × (failed later ≡ true))

-- What reading a file leaves in the vector. If it can't be opened, nothing is read, and the vector
-- stays. After a read that failed, or found no memory, it is empty
abbrev pub ReadsFile : {F : Type 0} → (List ℕ → Option F → Type 0) → (F → Option (List ℕ)) → (F → Bool)
    → List ℕ → List ℕ → List ℕ → Result (Unit {0}) Error → Type 0
ReadsFile opens left failed path old new (Ok _) = IsFile opens left path new
ReadsFile opens left failed path old new (Err FileNotFound) = opens path None × (new ≡ old)
ReadsFile opens left failed path old new (Err IoError) = IsUnreadable opens left failed path × (new ≡ [])
ReadsFile opens left failed path old new (Err OutOfMemory) = IsOfFile opens path (λ _. new ≡ [])
ReadsFile opens left failed path old new (Err _) = ⊥

-- the errors of reading a path: it can't be opened, a read failed, memory ran out, or the bytes of
-- the file are no minidump
abbrev pub IsPathError : {F : Type 0} → (List ℕ → Option F → Type 0) → (F → Option (List ℕ)) → (F → Bool)
    → List ℕ → Error → Type 0
IsPathError opens left failed path FileNotFound = opens path None
IsPathError opens left failed path IoError = IsUnreadable opens left failed path
IsPathError opens left failed path OutOfMemory = IsOfFile opens path (λ _. ⊤)
IsPathError opens left failed path e = IsOfFile opens path (λ file. IsReaderError left file e)

-- what reading a path returns: the minidump that the file is, or why there is none
abbrev pub ReadsPath : {F : Type 0} → (List ℕ → Option F → Type 0) → (F → Option (List ℕ)) → (F → Bool)
    → List ℕ → Result Minidump Error → Type 0
ReadsPath opens left failed path (Ok d) = IsFileDump opens left path (dump_of d)
ReadsPath opens left failed path (Err e) = IsPathError opens left failed path e
