-- What is printed of a dump.
use Rattle.std.specs.Prelude.{◌≡◌, ◌⊎◌, ◌++◌, ◌==◌, ◌&&◌, ℕ, Bool, false, true, not, List, [], ◌∷◌}
use Rattle.std.specs.Prelude.{codes, length, IfSome, Option, None, Some, Result, Ok, Err}
use Rattle.std.specs.Fmt.{decimal}
use Rattle.std.specs.Global.{Vec}
use Rattle.crash.specs.Crash.{CrashValue, crash_in}
use Rattle.crash_json.specs.Report.{error_text}
use Rattle.crash_lines.specs.Lines.{line_of}
use Rattle.minidump.specs.Below.Format.Error.{name_of_error}
use Rattle.minidump.specs.Below.Reasons.Names.{Lists}
use Rattle.minidump.specs.declared.Error.{Error}
use Rattle.minidump.specs.declared.Error.TheVariants.{OutOfMemory}
use Rattle.whocrashed_inputs.specs.Options.{has_dirs}
use Rattle.whocrashed_inputs.specs.declared.options.Form.{Form}
use Rattle.whocrashed_inputs.specs.declared.options.Form.TheVariants.{Json, Lines}
use Rattle.whocrashed_inputs.specs.declared.options.Options.{Options}
use Rattle.whocrashed.specs.Form.{IsByFiles, form_in, text_limits}

-- a dump is the only argument, and no list of paths is asked for
abbrev pub is_single : Options → Bool
is_single options = length options.dumps.items == 1 && not options.are_listed

-- the line of the path of a dump, which stands before the text of each dump but a single one
abbrev pub path_line : Form → Bool → List ℕ → List ℕ
path_line Lines false path = line_of (codes "dump    " ++ path)
path_line form single path = []

-- the same, by the options
unfoldable pub heading_of : Options → List ℕ → List ℕ
heading_of options path = path_line options.form (is_single options) path

-- the line of JSON of a file without a report where there was no memory for its path and why
abbrev pub no_memory_line : List ℕ
no_memory_line = codes "{\"path\":null,\"status\":\"OutOfMemory\"}\n"

-- the line of JSON of a file without a report: with its path and why, or that one
abbrev pub IsErrorLine : List ℕ → List ℕ → List ℕ → Type 0
IsErrorLine path why text =
    (text ≡ error_text path why ++ 0x0a ∷ []) ⊎ (text ≡ no_memory_line)

-- what is printed of a file without a report, besides a heading: in JSON the line that says why, and
-- else nothing
abbrev pub IsUnreported : Form → List ℕ → List ℕ → List ℕ → Type 0
IsUnreported Json path why text = IsErrorLine path why text
IsUnreported form path why text = text ≡ []

-- the same for some words, which are `known` where a contract tells them
abbrev pub IsFailure : Option (List ℕ) → Form → List ℕ → List ℕ → Type 0
IsFailure known form path text =
    (why : List ℕ) × IfSome known (λ words. why ≡ words) × IsUnreported form path why text

-- what is printed of a crash: its form, by symbol files where there are directories of these
pub record IsFormOf (options : Options) (path : List ℕ) (c : CrashValue) (text : List ℕ)
    : Type 0 where
  pub plain : has_dirs options ≡ false
      → text ≡ form_in options.form (text_limits options) path None c
  pub by_files : has_dirs options ≡ true
      → IsByFiles options.form (text_limits options) options.scan path c text

-- what is printed of the bytes of a dump, below its heading
abbrev pub IsBelow : Options → List ℕ → Result CrashValue Error → List ℕ → Type 0
IsBelow options path (Ok c) text = IsFormOf options path c text
IsBelow options path (Err error) text =
    IsUnreported options.form path (name_of_error error) text

-- what is printed of the bytes of a dump
unfoldable pub IsReport : Options → List ℕ → Result CrashValue Error → List ℕ → Type 0
IsReport options path crash text = (below : List ℕ) × IsBelow options path crash below
    × (text ≡ heading_of options path ++ below)

-- the words for a dump that has more bytes than the limit
abbrev pub too_large : ℕ → List ℕ
too_large limit = codes "larger than " ++ decimal limit ++ codes " bytes"

-- what is printed by what was read of a dump: the report on its bytes; that it is too large; or why
-- it can't be read, in words that no contract of the system tells
unfoldable pub IsPrintedOf : {E : Type 0} → Lists → Options → List ℕ
    → Result (Option (Vec ℕ)) E → List ℕ → Type 0
IsPrintedOf names options path (Ok (Some bytes)) text =
    IsReport options path (crash_in bytes.items names options.scan) text
IsPrintedOf names options path (Ok None) text =
    IsUnreported options.form path (too_large options.limit) text
IsPrintedOf names options path (Err _) text =
    (why : List ℕ) × IsUnreported options.form path why text

-- ---- where memory ran out

-- what is printed before: nothing, or the heading
abbrev pub IsBegun : Options → List ℕ → List ℕ → Type 0
IsBegun options path text = (text ≡ []) ⊎ (text ≡ heading_of options path)

-- what is printed in all: in JSON the line that memory ran out; else nothing, or the heading
abbrev pub IsCut : Form → Bool → List ℕ → List ℕ → Type 0
IsCut Json single path text = IsErrorLine path (name_of_error OutOfMemory) text
IsCut form single path text = (text ≡ []) ⊎ (text ≡ path_line form single path)

-- the same, by the options
abbrev pub IsCutShort : Options → List ℕ → List ℕ → Type 0
IsCutShort options path text = IsCut options.form (is_single options) path text
