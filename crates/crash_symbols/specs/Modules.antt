-- Which symbol file belongs to a module.
use Rattle.std.specs.Prelude.{ℕ, ◌==◌, ◌&&◌, ◌||◌, ◌++◌, ◌-◌, Bool, false, not, List, codes, drop}
use Rattle.std.specs.Prelude.{length, map, take, Option, Some, None, if◌then◌else◌, nat_lt}
use Rattle.std.specs.Char.{to_ascii_lowercase}
use Rattle.std.specs.List.{list_any}
use Rattle.std.specs.Option.{option_and_then, option_map, option_map_or}
use Rattle.std.specs.Str.{bytes_eq}
use Rattle.breakpad_symbols.specs.SymbolFile.{SymbolsValue}
use Rattle.crash_process.specs.FileName.{file_name}
use Rattle.crash_process.specs.Modules.{LoadedValue}

-- two texts are the same but for the case of letters
abbrev pub same_letters : List ℕ → List ℕ → Bool
same_letters a b = bytes_eq (map to_ascii_lowercase a) (map to_ascii_lowercase b)

-- a symbol file is that of a module: its MODULE line has the module's debug identifier
abbrev pub is_of_module : SymbolsValue → LoadedValue → Bool
is_of_module s m = option_map_or (same_letters s.module_record.id) m.debug_id false

-- ---- the path below a directory of symbol files

-- a byte that a name of a file can't have: `/`, `\` or NUL
abbrev pub separates : ℕ → Bool
separates b = b == 0x2f || (b == 0x5c || b == 0)

-- a text can be the name of a file or a directory below another one, and no other
abbrev pub is_plain_name : List ℕ → Bool
is_plain_name name = nat_lt 0 (length name) && (not (list_any separates name)
    && (not (bytes_eq name (codes ".")) && not (bytes_eq name (codes ".."))))

-- a name, if it is plain
abbrev pub plain_name : List ℕ → Option (List ℕ)
plain_name name = if is_plain_name name then Some name else None

-- the name of a debug file without the ending `.pdb`, in letters of either case
abbrev pub stem : List ℕ → List ℕ
stem name = let len = length name - 4 in
    if same_letters (drop len name) (codes ".pdb") then take len name else name

-- the path of a debug file's symbols by its name and identifier: `name/id/name.sym`, the last name
-- without the ending `.pdb`
abbrev pub path_of : List ℕ → List ℕ → List ℕ
path_of name id =
    name ++ (codes "/" ++ (id ++ (codes "/" ++ (stem name ++ codes ".sym"))))

-- the path of a module's symbol file: none where it lacks a name or an identifier, or one isn't
-- plain
abbrev pub symbol_path : LoadedValue → Option (List ℕ)
symbol_path m =
    option_and_then (λ file. option_and_then (λ id. option_and_then (λ name. option_map (path_of name) (plain_name id))
    (plain_name (file_name file))) m.debug_id) m.debug_file
