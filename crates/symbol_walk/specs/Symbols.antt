-- What an address is looked up in: the modules of a process, and their symbols.
use Rattle.std.specs.Prelude.{◌≡◌, ℕ, List, Option, None, slice_get}
use Rattle.std.specs.Option.{option_and_then, option_map}
use Rattle.minidump.specs.Below.Modules.Module.{ModuleValue}
use Rattle.minidump_index.specs.declared.range.Range.{Range}
use Rattle.minidump_index.specs.Lookup.{looked_up}
use Rattle.minidump_index.specs.Overlap.{range_of}
use Rattle.stack_walk.specs.Lookups.{module_place}
use Rattle.breakpad_symbols.specs.Cfi.{CfiValue}
use Rattle.breakpad_symbols.specs.Function.{FunctionValue}
use Rattle.breakpad_symbols.specs.SymbolFile.{SymbolsValue}

-- the symbols of the module with an index: none, where the list has none for it
abbrev pub symbols_of_module : List (Option SymbolsValue) → ℕ → Option SymbolsValue
symbols_of_module symbols index = option_and_then (λ s. s) (slice_get symbols index)

-- no module has symbols
abbrev pub HaveNone : List (Option SymbolsValue) → Type 0
HaveNone symbols = (index : ℕ) → symbols_of_module symbols index ≡ None

-- the symbols of the kept module that contains an address, and the offset in that
unfoldable pub symbols_at : List ModuleValue → List (Option SymbolsValue) → ℕ → Option (SymbolsValue × ℕ)
symbols_at modules symbols address = option_and_then
    (λ p. option_map (λ s. (s, p.1)) (symbols_of_module symbols p.0)) (module_place modules address)

-- the addresses of rules
abbrev pub range_of_rules : CfiValue → Option Range
range_of_rules c = range_of c.address c.size

-- the kept rules of an offset
abbrev pub cfi_at : SymbolsValue → ℕ → Option CfiValue
cfi_at s offset = looked_up range_of_rules s.cfi offset

-- the addresses of a function
abbrev pub range_of_lines : FunctionValue → Option Range
range_of_lines f = range_of f.address f.size

-- the kept function that has an offset
abbrev pub function_at : SymbolsValue → ℕ → Option FunctionValue
function_at s offset = looked_up range_of_lines s.functions offset
