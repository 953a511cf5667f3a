-- A run of the program: its status, and what it prints, by what is read of each dump.
use Rattle.std.specs.Prelude.{◌≡◌, ◌≢◌, ◌≤◌, ◌⊎◌, ℕ, Bool, true, false, List, [], ◌∷◌, ◌++◌, All}
use Rattle.std.specs.Prelude.{Contains, codes, flat_map, IfOk, IfSome, map, take, vec_len, Option}
use Rattle.std.specs.Prelude.{None, Some, Result, Ok, Err, String, if◌then◌else◌}
use Rattle.std.specs.List.{AllZip}
use Rattle.std.specs.Global.{Global, Vec}
use Rattle.std.specs.IoError.{error_kind}
use Rattle.std.specs.Str.Lossy.{utf8_lossy}
use Rattle.std.specs.declared.io.Error.{Error as IoError}
use Rattle.clap.specs.Words.{kind_of}
use Rattle.clap.specs.declared.error.Error.{Error}
use Rattle.minidump.specs.Below.Reasons.Names.{Lists}
use Rattle.whocrashed_inputs.specs.Input.{Asked, File, Input, Malformed, asked_in, by_argument}
use Rattle.whocrashed_inputs.specs.Options.{AreOptions, IsErrorOf, faults_in, refusal_in, rows_in}
use Rattle.whocrashed_inputs.specs.declared.options.Options.{Options}
use Rattle.known_names.specs.KnownNames.{all_lines}
use Rattle.minidump_names.specs.NamesText.{IsNames}
use Rattle.whocrashed.specs.Output.{Gains, Writes, failure_of}
use Rattle.whocrashed.specs.Printed.{IsCutShort, IsPrintedOf, IsUnreported}
use Rattle.whocrashed.specs.Status.{list_read, status_after, status_before, status_of_kind}
use Rattle.whocrashed.specs.Status.{status_read}
use Rattle.whocrashed.specs.declared.output.Output.{Output}

-- the text of names that is compiled in, or none where it is left out
abbrev pub known_text : Bool → List ℕ
known_text left_out = if left_out then [] else all_lines

-- ---- of a dump

-- the path under which a dump is printed
abbrev pub path_of : Asked → List ℕ
path_of Input = codes "-"
path_of (File path) = path
path_of (Malformed path) = utf8_lossy path

-- a status and a text are the report on a dump: by something that reading it may return; or, of a
-- path that isn't UTF-8, which isn't read, 1 and what is printed of a file without a report
abbrev pub HasReport : {E : Type 0} → (Asked → Result (Option (Vec ℕ)) E → Type 0) → Lists
    → Options → Asked → ℕ → List ℕ → Type 0
HasReport reads names options (Malformed path) status text = (status ≡ 1)
    × IsUnreported options.form (utf8_lossy path) (codes "the path isn't UTF-8") text
HasReport {E} reads names options asked status text = (read : Result (Option (Vec ℕ)) E)
    × reads asked read × (status ≡ status_read names options.scan read)
    × IsPrintedOf names options (path_of asked) read text

-- it may have that one, or one that was cut short where memory ran out, with the status 1
abbrev pub MayHave : {E : Type 0} → (Asked → Result (Option (Vec ℕ)) E → Type 0) → Lists
    → Options → Asked → ℕ → List ℕ → Type 0
MayHave reads names options asked status text = HasReport reads names options asked status text
    ⊎ ((status ≡ 1) × IsCutShort options (path_of asked) text)

-- names of codes are those that options ask for: of some text where files of names are asked for, and
-- else of the names that are compiled in, or of none where these are left out
abbrev pub AreNamesOf : Options → Lists → Type 0
AreNamesOf options names = (text : List ℕ) × IsNames text names
    × (options.names.items ≡ [] → text ≡ known_text options.only_names)

-- ---- of dumps

-- a status is the greatest of some
abbrev pub IsGreatest : List ℕ → ℕ → Type 0
IsGreatest statuses status = Contains statuses status × All (λ other. other ≤ status) statuses

-- a status and a text are those of reports on dumps, one each, which its dump may have: the status
-- is the greatest of a first one and of theirs, and their texts stand one after another
unfoldable pub AreReports : (Asked → ℕ → List ℕ → Type 0) → ℕ → List Asked → ℕ → List ℕ → Type 0
AreReports may first dumps status text = (reports : List (ℕ × List ℕ))
    × AllZip (λ asked report. may asked report.0 report.1) dumps reports
    × IsGreatest (first ∷ map (λ report. report.0) reports) status
    × (text ≡ flat_map (λ report. report.1) reports)

-- the list of paths and the status before the dumps, by what reading standard input may return; where
-- no list is asked for it is empty, and the status 0
abbrev pub IsListOf : {E : Type 0} → (Asked → Result (Option (Vec ℕ)) E → Type 0) → Bool → List ℕ
    → ℕ → Type 0
IsListOf {E} reads true list first = (read : Result (Option (Vec ℕ)) E) × reads Input read
    × (list ≡ list_read read) × (first ≡ status_before read)
IsListOf reads false list first = (list ≡ []) × (first ≡ 0)

-- the dumps that options ask for: those of the arguments, and then those of a list of paths
abbrev pub dumps_by : Options → List ℕ → List Asked
dumps_by options list = map (λ a. by_argument a.now) options.dumps.items ++ asked_in list

-- `reads` says what reading a dump or the list of paths may return; `part` takes, of all dumps that
-- are asked for, those that count: all, or the first ones
module _ {E : Type 0} (reads : Asked → Result (Option (Vec ℕ)) E → Type 0)
    (part : List Asked → List Asked) where
  -- a status and a text are those of the dumps that count, with these names of codes
  abbrev pub IsOfDumps : Lists → Options → ℕ → List ℕ → Type 0
  IsOfDumps names options status text = (list : List ℕ) × (first : ℕ)
      × IsListOf reads options.are_listed list first
      × AreReports (MayHave reads names options) first (part (dumps_by options list)) status text

  -- they are those of options, with the names of codes that these ask for
  abbrev pub IsOfOptions : Options → ℕ → List ℕ → Type 0
  IsOfOptions options status text =
      (names : Lists) × AreNamesOf options names × IsOfDumps names options status text

  -- they are those by what reading the arguments returned: of options, or of clap's error, for which
  -- only the help and the version are printed
  abbrev pub IsOfArguments : Result Options Error → ℕ → List ℕ → Type 0
  IsOfArguments (Ok options) status text = IsOfOptions options status text
  IsOfArguments (Err error) status text =
      (status ≡ status_of_kind (kind_of error)) × (status ≢ 0 → text ≡ [])

-- ---- of a run

-- what reading words may return: the options that they ask for, where the words have no fault and
-- these options aren't refused; or an error that they may have
abbrev pub IsReadOf : List (String Global) → Result Options Error → Type 0
IsReadOf words (Ok options) = (faults_in words ≡ []) × AreOptions (rows_in words) options
    × (refusal_in options ≡ None)
IsReadOf words (Err error) = IsErrorOf words (kind_of error)

-- the most bytes of a dump that are read: 0 where there are no options, and none is read
abbrev pub limit_of : Result Options Error → ℕ
limit_of (Ok options) = options.limit
limit_of (Err error) = 0

-- what reading a file may return by a limit: no more bytes than it. No contract of the system says
-- which bytes a file has
abbrev pub IsWithin : ℕ → Asked → Result (Option (Vec ℕ)) IoError → Type 0
IsWithin limit asked read = IfOk read (λ some. IfSome some (λ bytes. vec_len bytes ≤ limit))

-- the output of a run before and after it
module _ {O : Type 0} (contents : O → Option (List ℕ)) (old new : Output O) where
  -- a status is that of a run. If the output hasn't failed, it is that of all dumps, whose texts were
  -- printed; or 1, as where memory ran out or names of codes can't be read, and nothing was printed.
  -- If it failed, it is that of some first dumps at a closed pipe, and else 1; what was printed isn't
  -- said
  abbrev pub IsRunAfter : {E : Type 0} → (Asked → Result (Option (Vec ℕ)) E → Type 0)
      → Result Options Error → Option IoError → ℕ → Type 0
  IsRunAfter reads read None status = ((status ≡ 1) × Writes contents old new [])
      ⊎ Gains contents old new (IsOfArguments reads (λ dumps. dumps) read status)
  IsRunAfter reads read (Some error) status = (count : ℕ) × (before : ℕ) × (text : List ℕ)
      × IsOfArguments reads (take count) read before text
      × (status ≡ status_after (error_kind error) before)

  -- it is that of a run by what reading its arguments returned
  abbrev pub IsRunBy : {E : Type 0} → (Asked → Result (Option (Vec ℕ)) E → Type 0)
      → Result Options Error → ℕ → Type 0
  IsRunBy reads read status = IsRunAfter reads read (failure_of new) status

  -- it is that of a run by its words, which reads files by the limit that they ask for
  abbrev pub IsRunOf : List (String Global) → ℕ → Type 0
  IsRunOf words status = (read : Result Options Error) × IsReadOf words read
      × IsRunBy (IsWithin (limit_of read)) read status
