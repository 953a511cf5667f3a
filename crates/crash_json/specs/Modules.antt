-- Modules as JSON, loaded and unloaded.
use Rattle.std.specs.Prelude.{ℕ, ◌++◌, Bool, false, true, List, [], ◌∷◌, codes, Option, Some, None}
use Rattle.json.specs.Json.{Json, boolean, string}
use Rattle.crash_process.specs.declared.unreadable_modules.ModulePart.{ModulePart}
use Rattle.crash_process.specs.declared.unreadable_modules.ModulePart.TheVariants.{CodeView, Name}
use Rattle.crash_process.specs.declared.unreadable_modules.UnreadableModule.{UnreadableModule}
use Rattle.crash_process.specs.Modules.{LoadedValue, UnloadedModuleValue}
use Rattle.crash_symbols.specs.declared.symbols.SymbolState.{SymbolState}
use Rattle.crash_symbols.specs.declared.symbols.SymbolState.TheVariants.{Corrupt, Loaded, Missing}
use Rattle.crash_symbols.specs.declared.symbols.SymbolState.TheVariants.{OutOfMemory, Unwanted}
use Rattle.crash_symbols.specs.Shown.{SymbolizedValue}
use Rattle.crash_symbols.specs.Symbols.{are_loaded, state_at}
use Rattle.crash_json.specs.Tree.{count, hex_string, numbered_array_of, object_of, or_null}

-- the members of a module but what is known of its symbols
unfoldable pub module_members : LoadedValue → List (List ℕ × Json)
module_members m =
    (codes "base_addr", hex_string m.base)
    ∷ (codes "end_addr", or_null hex_string m.end)
    ∷ (codes "filename", string m.file)
    ∷ (codes "path", string m.path)
    ∷ (codes "code_id", or_null string m.code_id)
    ∷ (codes "debug_file", or_null string m.debug_file)
    ∷ (codes "debug_id", or_null string m.debug_id)
    ∷ (codes "version", or_null string m.version)
    ∷ []

-- ---- symbols

-- symbols were looked for and are missing, or memory ran out for them
abbrev pub are_missing : SymbolState → Bool
are_missing Missing = true
are_missing OutOfMemory = true
are_missing Unwanted = false
are_missing Loaded = false
are_missing Corrupt = false

-- symbols can't be read, or are those of another module
abbrev pub are_corrupt : SymbolState → Bool
are_corrupt Corrupt = true
are_corrupt Unwanted = false
are_corrupt Missing = false
are_corrupt Loaded = false
are_corrupt OutOfMemory = false

-- memory ran out for symbols
abbrev pub lack_memory : SymbolState → Bool
lack_memory OutOfMemory = true
lack_memory Unwanted = false
lack_memory Missing = false
lack_memory Loaded = false
lack_memory Corrupt = false

-- whether symbols are missing, whether they are there, whether they can't be used, and whether memory
-- ran out for them
abbrev pub flag_members : Bool → Bool → Bool → Bool → List (List ℕ × Json)
flag_members missing loaded corrupt lacks_memory =
    (codes "missing_symbols", boolean missing)
    ∷ (codes "loaded_symbols", boolean loaded)
    ∷ (codes "corrupt_symbols", boolean corrupt)
    ∷ (codes "no_memory_for_symbols", boolean lacks_memory)
    ∷ []

-- what is known of the symbols of the module of an index, where symbols are known
abbrev pub symbol_members : Option SymbolizedValue → ℕ → List (List ℕ × Json)
symbol_members (Some s) index = let state = state_at s.known.states index in
    flag_members (are_missing state) (are_loaded state) (are_corrupt state) (lack_memory state)
symbol_members None index = []

-- ---- all of it

-- a module by its index
abbrev pub module_json : Option SymbolizedValue → ℕ → LoadedValue → Json
module_json symbols index m = object_of (module_members m ++ symbol_members symbols index)

-- the modules
unfoldable pub modules_json : Option SymbolizedValue → List LoadedValue → Json
modules_json symbols modules = numbered_array_of (module_json symbols) modules

-- ---- entries that can't be read

-- the word for a part of a module's entry
abbrev pub part_name : ModulePart → List ℕ
part_name Name = codes "name"
part_name CodeView = codes "code_view"

-- a module of which a part can't be read
unfoldable pub unreadable_json : UnreadableModule → Json
unreadable_json m = object_of (
    (codes "index", count m.index)
    ∷ (codes "base_addr", hex_string m.base)
    ∷ (codes "size", count m.size)
    ∷ (codes "part", string (part_name m.part))
    ∷ [])

-- ---- others

-- the index of the main module, which is the first
abbrev pub main_module : List LoadedValue → Option ℕ
main_module [] = None
main_module (m ∷ ms) = Some 0

-- a module that was unloaded
unfoldable pub unloaded_json : UnloadedModuleValue → Json
unloaded_json m = object_of (
    (codes "base_addr", hex_string m.base)
    ∷ (codes "end_addr", or_null hex_string m.end)
    ∷ (codes "filename", string m.file)
    ∷ (codes "path", string m.path)
    ∷ (codes "code_id", or_null string m.code_id)
    ∷ [])
