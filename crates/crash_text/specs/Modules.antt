-- The lines of modules: how many there are, and those that have the address of the crash or a
-- printed frame, in the order of their addresses, with what a symbol server is asked by.
use Rattle.std.specs.Prelude.{ℕ, ◌≡◌, ◌<◌, ◌==◌, ◌||◌, Bool, false, List, [], ◌∷◌}
use Rattle.std.specs.Prelude.{get_or, length, Option, Some, None, codes, if◌then◌else◌, slice_get}
use Rattle.std.specs.List.{concat, flat_map, list_any}
use Rattle.std.specs.Option.{option_and_then}
use Rattle.minidump.specs.declared.Error.{Error}
use Rattle.minidump.specs.Below.Bytes.Piece.{hex}
use Rattle.crash_threads.specs.declared.addresses.AddressFacts.{AddressFacts}
use Rattle.crash_threads.specs.declared.frames.CrashFrame.{CrashFrame}
use Rattle.crash_process.specs.Modules.{LoadedValue}
use Rattle.crash_symbols.specs.declared.symbols.SymbolState.{SymbolState}
use Rattle.crash_symbols.specs.declared.symbols.SymbolState.TheVariants.{Corrupt, Loaded, Missing}
use Rattle.crash_symbols.specs.declared.symbols.SymbolState.TheVariants.{OutOfMemory, Unwanted}
use Rattle.crash_symbols.specs.Backtraces.{lies_in}
use Rattle.crash_symbols.specs.Shown.{SymbolizedValue}
use Rattle.crash_symbols.specs.Symbols.{state_at}
use Rattle.crash_text.specs.declared.limits.TextLimits.{TextLimits}
use Rattle.crash_text.specs.Page.{PageValue, if_asked}
use Rattle.crash_text.specs.Threads.{frames_in}
use Rattle.crash_lines.specs.Words.{count_row, decimal_if, hex_if, if_missing, key_text, text_if}

-- ---- a module

-- all modules are asked for
abbrev pub all_modules : TextLimits → Bool
all_modules limits = limits.lists || limits.modules

-- the words for the symbols of a module, where they were looked for
abbrev pub state_text : SymbolState → List ℕ
state_text Unwanted = []
state_text Missing = codes ", no symbols"
state_text Loaded = codes ", symbols read"
state_text Corrupt = codes ", symbols of another module or damaged"
state_text OutOfMemory = codes ", no memory for its symbols"

-- the same by the index of a module
abbrev pub symbols_text : Option SymbolizedValue → ℕ → List ℕ
symbols_text (Some s) index = state_text (state_at s.known.states index)
symbols_text None index = []

-- the line of a module: its base address, its end where all modules are asked for, its path, its
-- version, and what a symbol server is asked by: the names and the identifiers of its debug file
-- and of its code file; the words for its symbols, and its index where all are asked for
unfoldable pub module_line : Bool → ℕ → LoadedValue → List ℕ → List ℕ
module_line is_asked index m symbols = concat (codes "    " ∷ hex m.base
    ∷ hex_if (codes "-") (if_asked is_asked m.end) ∷ codes " " ∷ m.path
    ∷ text_if (codes ", version ") m.version [] ∷ text_if (codes ", debug ") m.debug_file []
    ∷ text_if (codes "/") m.debug_id [] ∷ key_text (codes ", code ") m.file m.code_id ∷ symbols
    ∷ decimal_if (codes ", index ") (if_asked is_asked (Some index)) [] ∷ [])

-- ---- those that are listed

-- a place is in the module of an index
abbrev pub is_in : ℕ → Option (ℕ × ℕ) → Bool
is_in index (Some place) = place.0 == index
is_in index None = false

-- the module that has the address of the crash, by its index, and the offset in it
abbrev pub address_place : Option AddressFacts → Option (ℕ × ℕ)
address_place address = option_and_then (λ a. a.«module») address

-- the address of the crash or one of these frames is in the module of an index
abbrev pub is_named : Option AddressFacts → List CrashFrame → ℕ → Bool
is_named address frames index = is_in index (address_place address)
    || list_any (lies_in index) frames

-- the module of an index with the words for its symbols, if all modules are asked for or it is named
abbrev pub listed_lines : TextLimits → Bool → ℕ → Option LoadedValue → List ℕ → List (List ℕ)
listed_lines limits named index (Some m) symbols = if all_modules limits || named
    then module_line (all_modules limits) index m symbols ∷ [] else []
listed_lines limits named index None symbols = []

-- the same of the module of an index, by the indices of those that are named
abbrev pub module_at : PageValue → (ℕ → Bool) → ℕ → List (List ℕ)
module_at p named index = listed_lines p.limits (named index) index
    (slice_get p.crash.modules.loaded index) (symbols_text p.symbols index)

-- the modules of these indices that are listed
abbrev pub each_module : PageValue → (ℕ → Bool) → List ℕ → List (List ℕ)
each_module p named indices = flat_map (module_at p named) indices

-- the modules that are listed, by the address of the crash and by the frames that are printed
unfoldable pub named_modules : PageValue → List (List ℕ)
named_modules p = each_module p
    (is_named p.crash.cause.address (frames_in p p.crash.threads.threads)) p.crash.modules.by_address

-- each of so many modules has a mark, that says whether one of these frames is in it
pub record HasMarks (marks : List Bool) (count : ℕ) (frames : List CrashFrame) : Type 0 where
  pub size : length marks ≡ count
  pub at : (i : ℕ) → i < count → get_or marks i false ≡ list_any (lies_in i) frames

-- the address of the crash is in the module of an index, or it has a mark
abbrev pub is_marked : Option AddressFacts → List Bool → ℕ → Bool
is_marked address marks index = is_in index (address_place address) || get_or marks index false

-- ---- all of it

-- the modules, or that their list is missing
abbrev pub modules_lines : PageValue → Option Error → List (List ℕ)
modules_lines p None = count_row (codes "modules") (length p.crash.modules.loaded)
    ∷ named_modules p
modules_lines p (Some error) = if_missing (codes "no modules") error
