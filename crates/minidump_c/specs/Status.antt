-- The status of a call: 0, or the number of an error; calls with a text of names of codes; and the names
-- of statuses.
use Rattle.std.specs.Prelude.{◌≡◌, ◌⊎◌, ◌<◌, ℕ, List, [], codes, IsOk}
use Rattle.minidump.specs.declared.Error.{Error}
use Rattle.minidump.specs.declared.Error.TheVariants as error
use Rattle.minidump.specs.Dump.{IsDumpErrorOr, dump_in}
use Rattle.minidump.specs.Below.Format.Error.{name_of_error}
use Rattle.minidump.specs.Below.Reasons.Names.{Lists}
use Rattle.minidump_names.specs.NamesText.{IsNames, IsNamesTextError}
use Rattle.minidump_names.specs.declared.error.NamesError.{NamesError}
use Rattle.minidump_names.specs.declared.error.NamesError.TheVariants as names
use Rattle.minidump_c.specs.declared.status.CallError.{CallError}
use Rattle.minidump_c.specs.declared.status.CallError.TheVariants.{OfNames, OfDump}

-- the numbers of the errors
abbrev pub status_of : Error → ℕ
status_of error.FileNotFound = 1
status_of error.IoError = 2
status_of error.MissingHeader = 3
status_of error.HeaderMismatch = 4
status_of error.VersionMismatch = 5
status_of error.MissingDirectory = 6
status_of error.StreamReadFailure = 7
status_of (error.StreamSizeMismatch expected actual) = 8
status_of error.StreamNotFound = 9
status_of error.ModuleReadFailure = 10
status_of error.MemoryReadFailure = 11
status_of error.DataError = 12
status_of error.CodeViewReadFailure = 13
status_of error.UknownElementType = 14
status_of error.OutOfMemory = 15

-- 0, and the call did what `done` says; or the number of an error that `errors` allows, and what
-- the caller passed is as `kept` says
abbrev pub Ends : ℕ → Type 0 → (Error → Type 0) → Type 0 → Type 0
Ends status done errors kept =
    ((status ≡ 0) × done) ⊎ (((e : Error) × errors e × (status ≡ status_of e)) × kept)

-- the bytes are no minidump, or memory ran out for the text, which every minidump has
abbrev pub IsTextError : List ℕ → Error → Type 0
IsTextError bytes e = IsDumpErrorOr (IsOk (dump_in bytes)) bytes e

-- ---- calls with a text of names

-- the numbers of the errors of a text of names
abbrev pub names_status : NamesError → ℕ
names_status (names.NotALine line) = 16
names_status (names.OutOfOrder line) = 17
names_status names.OutOfMemory = 15

-- the number of the line of such an error, and what was there before where it has none
abbrev pub line_of : NamesError → ℕ → ℕ
line_of (names.NotALine line) old = line
line_of (names.OutOfOrder line) old = line
line_of names.OutOfMemory old = old

-- the number of the error of a call with a text of names
abbrev pub call_status : CallError → ℕ
call_status (OfNames e) = names_status e
call_status (OfDump e) = status_of e

-- the number of its line, and what was there before where it has none
abbrev pub call_line : CallError → ℕ → ℕ
call_line (OfNames e) old = line_of e old
call_line (OfDump e) old = old

-- how a call with a text of names ends, which it reads first: by an error of that text, whose line
-- is told; or the names are those of the text, and it ends as a call with these names does, and
-- tells no line
abbrev pub EndsNamed : ℕ → List ℕ → ℕ → ℕ → (Lists → Type 0) → (Lists → Error → Type 0) → Type 0
    → Type 0
EndsNamed status text old new done errors kept =
    ((e : NamesError) × IsNamesTextError text e × (status ≡ names_status e) × (new ≡ line_of e old)
    × kept)
    ⊎ ((lists : Lists) × IsNames text lists × Ends status (done lists) (errors lists) kept
    × (new ≡ old))

-- what a call with a text of names returns, by the names of the text
abbrev pub IsNamed : {A : Type 0} → List ℕ → (Lists → A → Type 0) → A → Type 0
IsNamed text Is x = (lists : Lists) × IsNames text lists × Is lists x

-- the error of such a call: one of the text; or the text has names, and it is one of the call
abbrev pub IsNamedError : List ℕ → (Lists → Error → Type 0) → CallError → Type 0
IsNamedError text errors (OfNames e) = IsNamesTextError text e
IsNamedError text errors (OfDump e) = (lists : Lists) × IsNames text lists × errors lists e

-- ---- the names of statuses

-- the name of the error of a status, and nothing where it is that of none
abbrev pub IsNameOf : ℕ → List ℕ → Type 0
IsNameOf status text =
    ((e : Error) × (status_of e ≡ status) × (text ≡ name_of_error e))
    ⊎ ((status ≡ 16) × (text ≡ codes "NotALine"))
    ⊎ ((status ≡ 17) × (text ≡ codes "OutOfOrder"))
    ⊎ (((status ≡ 0) ⊎ (17 < status)) × (text ≡ []))
