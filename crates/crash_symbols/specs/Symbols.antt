-- The symbol files of a process's modules.
use Rattle.std.specs.Prelude.{ℕ, Bool, false, true, List, [], map, slice_get, Option}
use Rattle.std.specs.Option.{option_map, option_map_or}
use Rattle.breakpad_symbols.specs.SymbolFile.{SymbolsValue, symbols_of}
use Rattle.crash_symbols.specs.declared.symbols.SymbolState.{SymbolState}
use Rattle.crash_symbols.specs.declared.symbols.SymbolState.TheVariants.{Corrupt, Loaded, Missing}
use Rattle.crash_symbols.specs.declared.symbols.SymbolState.TheVariants.{OutOfMemory, Unwanted}
use Rattle.crash_symbols.specs.declared.symbols.Symbols.{Symbols}

-- what the symbol file of each module says, where it is known, and what is known of the file, both
-- by the index of the module
pub record KnownSymbols : Type 0 where
  pub files : List (Option SymbolsValue)
  pub states : List SymbolState

-- the same of a `Symbols`
abbrev pub known_of : Symbols → KnownSymbols
known_of s = record {
  files = map (option_map (λ f. symbols_of f.now)) s.files.items;
  states = s.states.items;
}

-- what the files say, where there are any
abbrev pub files_of : Option KnownSymbols → List (Option SymbolsValue)
files_of symbols = option_map_or (λ s. s.files) symbols []

-- the state of the symbol file of the module of an index: unwanted beyond the list
abbrev pub state_at : List SymbolState → ℕ → SymbolState
state_at states index = option_map_or (λ state. state) (slice_get states index) Unwanted

-- a state says that symbols are there
unfoldable pub are_loaded : SymbolState → Bool
are_loaded Unwanted = false
are_loaded Missing = false
are_loaded Loaded = true
are_loaded Corrupt = false
are_loaded OutOfMemory = false
