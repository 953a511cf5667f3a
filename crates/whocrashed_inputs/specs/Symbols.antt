-- What is known of a module's symbol file after it was looked for.
use Rattle.std.specs.Prelude.{◌≡◌, ◌≢◌, ℕ, true, List, map, slice_get, ⊤}
use Rattle.std.specs.Prelude.{Option, Some, None, IfSome, is_some, Result, Ok, Err, if◌then◌else◌}
use Rattle.std.specs.Borrow.{Bor}
use Rattle.std.specs.List.{AllZip}
use Rattle.std.specs.declared.io.ErrorKind.{ErrorKind}
use Rattle.std.specs.declared.io.ErrorKind.TheVariants as kind
use Rattle.breakpad_symbols.specs.SymbolFile.{SymbolsValue, symbols_of}
use Rattle.breakpad_symbols.specs.declared.symbol_file.SymbolFile.{SymbolFile}
use Rattle.crash_process.specs.Modules.{LoadedValue}
use Rattle.crash_symbols.specs.Modules.{is_of_module}
use Rattle.crash_symbols.specs.Symbols.{KnownSymbols, are_loaded}
use Rattle.crash_symbols.specs.declared.symbols.SymbolState.{SymbolState}
use Rattle.crash_symbols.specs.declared.symbols.SymbolState.TheVariants.{Corrupt, Loaded, Missing}
use Rattle.crash_symbols.specs.declared.symbols.SymbolState.TheVariants.{OutOfMemory, Unwanted}
use Rattle.whocrashed_inputs.specs.declared.symbols.NoSymbols.{NoSymbols}
use Rattle.whocrashed_inputs.specs.declared.symbols.NoSymbols.TheVariants as reason

-- the state of a module whose symbol file was looked for, and which has none: neither unwanted nor
-- loaded
abbrev pub state_without : NoSymbols → SymbolState
state_without reason.Missing = Missing
state_without reason.Corrupt = Corrupt
state_without reason.OutOfMemory = OutOfMemory

-- the state of a symbol file that can't be read for an error of this kind: missing where its path
-- names no file, and damaged for any other error but want of memory
abbrev pub state_of_kind : ErrorKind → SymbolState
state_of_kind kind.NotFound = Missing
state_of_kind kind.NotADirectory = Missing
state_of_kind kind.InvalidFilename = Missing
state_of_kind kind.OutOfMemory = OutOfMemory
state_of_kind _ = Corrupt

-- why a text that was read gives no symbol file: never as missing, and as damaged only where it is
-- no symbol file
abbrev pub IsNoFile : Option SymbolsValue → NoSymbols → Type 0
IsNoFile symbols reason.Missing = ⊥
IsNoFile symbols reason.Corrupt = symbols ≡ None
IsNoFile symbols reason.OutOfMemory = ⊤

-- the state of a symbol file that was looked for
abbrev pub state_read : Result (Bor SymbolFile) NoSymbols → SymbolState
state_read (Ok file) = Loaded
state_read (Err why) = state_without why

-- what was looked for, as the file of a module: damaged if it is another's
abbrev pub of_module : Result (Bor SymbolFile) NoSymbols → LoadedValue
    → Result (Bor SymbolFile) NoSymbols
of_module (Ok file) m = if is_of_module (symbols_of file.now) m then Ok file else Err reason.Corrupt
of_module (Err why) m = Err why

-- a symbol file, if it is known, is that of a module
abbrev pub Belongs : LoadedValue → Option SymbolsValue → Type 0
Belongs m file = IfSome file (λ s. is_of_module s m ≡ true)

-- what is known of the symbol files of modules is sound: each file that is known is that of the
-- module of its index, and by the states exactly those are loaded that are known
pub record IsSound (modules : List LoadedValue) (known : KnownSymbols) : Type 0 where
  pub belong : AllZip Belongs modules known.files
  pub loaded : map are_loaded known.states ≡ map is_some known.files

-- the module of an index isn't unwanted
abbrev pub IsAsked : List SymbolState → ℕ → Type 0
IsAsked states index = slice_get states index ≢ Some Unwanted

-- what is known of the module of an index stays: its symbol file, and its state
abbrev pub IsKept : KnownSymbols → KnownSymbols → ℕ → Type 0
IsKept old new index = (slice_get new.files index ≡ slice_get old.files index)
    × (slice_get new.states index ≡ slice_get old.states index)
