-- What the words of the command line ask for, by the rules of the options, and which options are
-- refused.
use Rattle.std.specs.Prelude.{◌≡◌, ◌⊎◌, ◌<◌, ◌^◌, ◌==◌, ◌&&◌, ◌||◌, ℕ, Bool, false, true, List}
use Rattle.std.specs.Prelude.{[], ◌∷◌, Option, Some, None, bytes_eq, codes, count_by, length, map}
use Rattle.std.specs.Prelude.{nat_lt, not, string_bytes, String, unwrap_or, if◌then◌else◌}
use Rattle.std.specs.Borrow.{Bor}
use Rattle.std.specs.Global.{Global}
use Rattle.std.specs.Str.Parse.{IsNumeral, digits_value, without_leading_plus}
use Rattle.clap.specs.Kinds.{Kinds, IsAmong}
use Rattle.clap.specs.Lexer.{usize_max}
use Rattle.clap.specs.Words.{App, Row, Rule, Text, all_of, fault_of, matches_of, new_app, new_rule}
use Rattle.clap.specs.Words.{one_of, with_rule}
use Rattle.clap.specs.declared.builder.action.ArgAction.TheVariants.{Append, SetTrue}
use Rattle.clap.specs.declared.builder.value_parser.ValueParser.TheVariants.{Unsigned}
use Rattle.clap.specs.declared.error.kind.ErrorKind.{ErrorKind}
use Rattle.clap.specs.declared.error.kind.ErrorKind.TheVariants as kind
use Rattle.whocrashed_inputs.specs.declared.options.Form.{Form}
use Rattle.whocrashed_inputs.specs.declared.options.Form.TheVariants.{Html, Json}
use Rattle.whocrashed_inputs.specs.declared.options.Options.{Options}
use Rattle.whocrashed_inputs.specs.declared.options.Takes.{Takes}
use Rattle.whocrashed_inputs.specs.declared.options.Takes.TheVariants as takes

-- ---- the rules of the options

-- a flag: nothing follows its name
abbrev pub flag : Text → Rule
flag name = record (new_rule name) { long = Some name; action = Some SetTrue }

-- an option whose name a path follows, each time that it is given
abbrev pub paths : Text → Rule
paths name = record (new_rule name) { long = Some name; value_names = 1; action = Some Append }

-- an option whose name a number of at most 64 bits follows, and the text that counts if the option
-- isn't given
abbrev pub number : Text → Text → Rule
number name default = record (new_rule name) {
  long = Some name;
  value_names = 1;
  parser = Some (Unsigned 0 18446744073709551615);
  defaults = default ∷ [];
}

-- the option of a name, by what follows it
abbrev pub rule_by : Text → Takes → Rule
rule_by name takes.Nothing = flag name
rule_by name (takes.Paths value) = paths name
rule_by name (takes.Number value default) = number name default.now

-- an option as a row of a table: its name, what follows it, and its help
abbrev pub row_rule : Bor Text × Takes × Bor Text → Rule
row_rule row = rule_by row.0.now row.1

-- DUMP: the words that belong to no option
abbrev pub dumps_rule : Rule
dumps_rule = record (new_rule (codes "dumps")) {
  value_names = 1;
  action = Some Append;
  range = Some (record { start_inclusive = 1; end_inclusive = usize_max });
}

-- the command before it is told of its options: it has a version, and its words don't begin with
-- the program's name
abbrev pub bare_app : App
bare_app = record (new_app (codes "whocrashed")) {
  top = record (new_app (codes "whocrashed")).top { no_binary_name = true; has_version = true };
}

-- a command with further rules at its end
abbrev pub with_rules : App → List Rule → App
with_rules app [] = app
with_rules app (rule ∷ rules) = with_rules (with_rule app rule) rules

-- the options, in the order of the help
abbrev pub option_rules : List Rule
option_rules = paths (codes "symbols")
    ∷ number (codes "symbols-limit") (codes "1073741824")
    ∷ paths (codes "names")
    ∷ flag (codes "only-names")
    ∷ flag (codes "all-threads")
    ∷ flag (codes "lists")
    ∷ flag (codes "modules")
    ∷ flag (codes "handles")
    ∷ flag (codes "environment")
    ∷ number (codes "frames") (codes "64")
    ∷ number (codes "scan") (codes "16")
    ∷ flag (codes "json")
    ∷ flag (codes "html")
    ∷ flag (codes "progress")
    ∷ flag (codes "stdin-paths")
    ∷ number (codes "limit") (codes "1073741824") ∷ []

-- the command, with its options and DUMP
unfoldable pub whocrashed_app : App
whocrashed_app = with_rule (with_rules bare_app option_rules) dumps_rule

-- what stands for each option in words, by clap's rules: the values that follow its name, or its
-- default
unfoldable pub rows_in : List (String Global) → List Row
rows_in words = matches_of whocrashed_app (map string_bytes words)

-- the faults of words by clap's rules, as kinds of error: none if the words are well formed, and
-- otherwise those of the first thing that is wrong, such as an option that there isn't; also that
-- of the help or the version, if the words ask for it
unfoldable pub faults_in : List (String Global) → Kinds
faults_in words = fault_of whocrashed_app (map string_bytes words)

-- ---- what the options say

-- a flag is set if its text is "true", and isn't if it is "false" or there is none
abbrev pub IsFlag : List Row → Text → Bool → Type 0
IsFlag rows id set = (one_of id rows ≡ None → set ≡ false)
    × (one_of id rows ≡ Some (codes "true") → set ≡ true)
    × (one_of id rows ≡ Some (codes "false") → set ≡ false)

-- a number is the one that its text writes in decimal, if the text does and the number has at most
-- 64 bits; it is 0 if there is no text
abbrev pub IsNumber : List Row → Text → ℕ → Type 0
IsNumber rows id n = (one_of id rows ≡ None → n ≡ 0)
    × ((text : List ℕ) → one_of id rows ≡ Some text
    → IsNumeral 10 (without_leading_plus text)
    → digits_value 10 (without_leading_plus text) < 2 ^ 64
    → n ≡ digits_value 10 (without_leading_plus text))

-- the values of an argument, in their order: none where it isn't there
abbrev pub values_in : List Row → Text → List (List ℕ)
values_in rows id = unwrap_or (all_of id rows) []

-- the form is a line of JSON
abbrev pub is_json : Form → Bool
is_json Json = true
is_json _ = false

-- the form is the page
abbrev pub is_html : Form → Bool
is_html Html = true
is_html _ = false

-- the options are those of the texts that were found, each of the argument of its name
pub record AreOptions (rows : List Row) (options : Options) : Type 0 where
  pub json : IsFlag rows (codes "json") (is_json options.form)
  pub html : IsFlag rows (codes "html") (is_html options.form)
  pub frames : IsNumber rows (codes "frames") options.frames
  pub all_threads : IsFlag rows (codes "all-threads") options.all_threads
  pub lists : IsFlag rows (codes "lists") options.lists
  pub modules : IsFlag rows (codes "modules") options.modules
  pub handles : IsFlag rows (codes "handles") options.handles
  pub environment : IsFlag rows (codes "environment") options.environment
  pub scan : IsNumber rows (codes "scan") options.scan
  pub names : map (λ f. f.now) options.names.items ≡ values_in rows (codes "names")
  pub only_names : IsFlag rows (codes "only-names") options.only_names
  pub symbols : map (λ d. d.now) options.symbols.items ≡ values_in rows (codes "symbols")
  pub symbols_limit : IsNumber rows (codes "symbols-limit") options.symbols_limit
  pub progress : IsFlag rows (codes "progress") options.shows_progress
  pub dumps : map (λ d. d.now) options.dumps.items ≡ values_in rows (codes "dumps")
  pub listed : IsFlag rows (codes "stdin-paths") options.are_listed
  pub limit : IsNumber rows (codes "limit") options.limit

-- both the page and JSON are asked for
abbrev pub HasTwoForms : List Row → Type 0
HasTwoForms rows = IsFlag rows (codes "json") true × IsFlag rows (codes "html") true

-- there are directories in which symbol files are looked for
abbrev pub has_dirs : Options → Bool
has_dirs options = not (length options.symbols.items == 0)

-- ---- which options are refused

-- standard input is asked for more than once, as a dump, `-`, or as a list of paths
abbrev pub has_several_inputs : List (List ℕ) → Bool → Bool
has_several_inputs paths listed =
    let inputs = count_by (bytes_eq (codes "-")) paths in nat_lt 1 inputs || inputs == 1 && listed

-- the kind of error with which options are refused, though each is well formed: the page with a
-- list of paths, or of several dumps; no dump and no list; standard input that is read twice; or no
-- frames, without which JSON and page would lack the registers, too
abbrev pub refusal_of : Form → ℕ → List (List ℕ) → Bool → Option ErrorKind
refusal_of form frames paths listed =
    if is_html form && listed then Some kind.ArgumentConflict
    else if is_html form && nat_lt 1 (length paths) then Some kind.TooManyValues
    else if length paths == 0 && not listed then Some kind.MissingRequiredArgument
    else if has_several_inputs paths listed then Some kind.ArgumentConflict
    else if frames == 0 then Some kind.ValueValidation
    else None

-- the same, of all options
abbrev pub refusal_in : Options → Option ErrorKind
refusal_in options = refusal_of options.form options.frames
    (map (λ p. p.now) options.dumps.items) options.are_listed

-- the options that were found are refused with this kind of error
abbrev pub IsRefused : List Row → ErrorKind → Type 0
IsRefused rows why = (HasTwoForms rows × (why ≡ kind.ArgumentConflict))
    ⊎ ((options : Options) × AreOptions rows options × (refusal_in options ≡ Some why))

-- words may have this kind of error: memory ran out; it is one of their faults; or they have none,
-- and the options that they ask for are refused with it
abbrev pub IsErrorOf : List (String Global) → ErrorKind → Type 0
IsErrorOf words why = (why ≡ kind.OutOfMemory) ⊎ (IsAmong why (faults_in words)
    ⊎ ((faults_in words ≡ []) × IsRefused (rows_in words) why))
