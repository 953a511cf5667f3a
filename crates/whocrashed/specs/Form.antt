-- What is printed of a crash: its text, its JSON or its page.
use Rattle.std.specs.Prelude.{◌≡◌, ◌++◌, ℕ, List, [], ◌∷◌, Option, Some}
use Rattle.crash.specs.Crash.{CrashValue}
use Rattle.crash_html.specs.Page.{page_with}
use Rattle.crash_json.specs.declared.JsonLimits.{JsonLimits}
use Rattle.crash_json.specs.Report as json
use Rattle.crash_symbols.specs.Backtraces.{backtraces_in}
use Rattle.crash_symbols.specs.Shown.{SymbolizedValue}
use Rattle.crash_symbols.specs.Symbols.{KnownSymbols}
use Rattle.crash_text.specs.declared.limits.TextLimits.{TextLimits}
use Rattle.crash_text.specs.Text as text
use Rattle.whocrashed_inputs.specs.declared.options.Form.{Form}
use Rattle.whocrashed_inputs.specs.declared.options.Form.TheVariants.{Html, Json, Lines}
use Rattle.whocrashed_inputs.specs.declared.options.Options.{Options}
use Rattle.whocrashed_inputs.specs.Symbols.{IsSound}

-- the limits of the text, by the options
abbrev pub text_limits : Options → TextLimits
text_limits options = record {
  frames = options.frames;
  all_threads = options.all_threads;
  lists = options.lists;
  modules = options.modules;
  handles = options.handles;
  environment = options.environment;
}

-- the limits of the JSON, which are among those of the text
abbrev pub json_limits : TextLimits → JsonLimits
json_limits limits = record { frames = limits.frames; environment = limits.environment }

-- ---- a crash, with symbols where they are known

-- its JSON, with the path of its file
unfoldable pub json_in : TextLimits → List ℕ → Option SymbolizedValue → CrashValue → List ℕ
json_in limits path symbols c = json.text_of (json_limits limits) (Some path) symbols c

-- what is printed of it: its lines of text, its JSON as a line, or the page with its JSON
unfoldable pub form_in : Form → TextLimits → List ℕ → Option SymbolizedValue → CrashValue → List ℕ
form_in Lines limits path symbols c = text.text_of limits symbols c
form_in Json limits path symbols c = json_in limits path symbols c ++ 0x0a ∷ []
form_in Html limits path symbols c = page_with (json_in limits path symbols c)

-- ---- a crash with symbol files

-- what is known of symbol files, and the backtraces by them, with at most so many candidates a thread
abbrev pub shown_by : CrashValue → KnownSymbols → ℕ → SymbolizedValue
shown_by c known scan = record { known = known; threads = backtraces_in c known scan }

-- a text is what is printed of a crash by symbol files: each file is that of its module, a module
-- is said to have its symbols exactly where its file is known, and the backtraces are those that
-- the files give, with at most so many candidates a thread
pub record IsByFiles (form : Form) (limits : TextLimits) (scan : ℕ) (path : List ℕ) (c : CrashValue)
    (printed : List ℕ) : Type 0 where
  pub known : KnownSymbols
  pub sound : IsSound c.modules.loaded known
  pub same : printed ≡ form_in form limits path (Some (shown_by c known scan)) c
