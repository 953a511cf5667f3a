-- The modules of a process: where each was, and what symbol tools ask of it.
use Rattle.std.specs.Prelude.{◌≡◌, ℕ, ◌+◌, ◌^◌, List, [], is_none, map, nat_lt, Option, Some, None}
use Rattle.std.specs.Prelude.{if◌then◌else◌, string_bytes, unwrap_or}
use Rattle.std.specs.declared.cmp.Ordering.{Ordering}
use Rattle.std.specs.List.{enumerate_from, filter_map}
use Rattle.std.specs.Option.{option_map}
use Rattle.std.specs.Ordering.{nat_cmp, ordering_then}
use Rattle.std.specs.Result.{is_err, result_ok}
use Rattle.minidump.specs.declared.Endian.{Endian}
use Rattle.minidump.specs.declared.Error.{Error}
use Rattle.minidump.specs.declared.format.MINIDUMP_MODULE.{MINIDUMP_MODULE}
use Rattle.minidump.specs.Below.Bytes.Text16.{text16}
use Rattle.minidump.specs.Below.Format.Module.{module_entry}
use Rattle.minidump.specs.Below.Index.Overlap.{range_of}
use Rattle.minidump.specs.Below.Modules.CodeId.{stamp_form}
use Rattle.minidump.specs.Below.Modules.DebugId.{breakpad_text}
use Rattle.minidump.specs.Below.Modules.Module.{ModuleValue, identity_of, read_module}
use Rattle.minidump.specs.Below.Modules.UnloadedModule.{UnloadedValue}
use Rattle.minidump.specs.Below.System.Framing.{plain_list}
use Rattle.minidump.specs.Below.System.Reads.{and_then}
use Rattle.minidump.specs.Dump.{Dump, raw_stream}
use Rattle.crash_process.specs.Ascending.{IsAscending, ascending}
use Rattle.crash_process.specs.FileName.{file_name}
use Rattle.crash_process.specs.declared.modules.CrashModule.{CrashModule}
use Rattle.crash_process.specs.declared.modules.CrashModules.{CrashModules}
use Rattle.crash_process.specs.declared.modules.UnloadedModule.{UnloadedModule}
use Rattle.crash_process.specs.declared.unreadable_modules.ModulePart.{ModulePart}
use Rattle.crash_process.specs.declared.unreadable_modules.ModulePart.TheVariants.{CodeView, Name}
use Rattle.crash_process.specs.declared.unreadable_modules.UnreadableModule.{UnreadableModule}
use Rattle.crash_streams.specs.Contents.{ContentsValue}

-- a module: its addresses, its file, and its version and identifiers, where it has them
pub record LoadedValue : Type 0 where
  pub base : ℕ
  pub end : Option ℕ
  pub path : List ℕ
  pub file : List ℕ
  pub version : Option (List ℕ)
  pub code_id : Option (List ℕ)
  pub debug_file : Option (List ℕ)
  pub debug_id : Option (List ℕ)

-- a module that was unloaded
pub record UnloadedModuleValue : Type 0 where
  pub base : ℕ
  pub end : Option ℕ
  pub path : List ℕ
  pub file : List ℕ
  pub code_id : Option (List ℕ)

-- the modules, their indices in the order of their addresses, the entries for which their list
-- can't be read, and the modules that were unloaded
pub record ModulesValue : Type 0 where
  pub loaded : List LoadedValue
  pub by_address : List ℕ
  pub unreadable : List UnreadableModule
  pub unloaded : List UnloadedModuleValue

-- ---- the value of the structs

abbrev pub loaded_of : CrashModule → LoadedValue
loaded_of m = record {
  base = m.base;
  end = m.end;
  path = string_bytes m.path;
  file = string_bytes m.file;
  version = option_map string_bytes m.version;
  code_id = option_map string_bytes m.code_id;
  debug_file = option_map string_bytes m.debug_file;
  debug_id = option_map string_bytes m.debug_id;
}

abbrev pub unloaded_module_of : UnloadedModule → UnloadedModuleValue
unloaded_module_of m = record {
  base = m.base;
  end = m.end;
  path = string_bytes m.path;
  file = string_bytes m.file;
  code_id = option_map string_bytes m.code_id;
}

abbrev pub modules_of : CrashModules → ModulesValue
modules_of m = record {
  loaded = map loaded_of m.loaded.items;
  by_address = m.by_address.items;
  unreadable = m.unreadable.items;
  unloaded = map unloaded_module_of m.unloaded.items;
}

-- ---- the value of the streams

-- the address after a range: none where it has more than 64 bits
abbrev pub end_of : ℕ → ℕ → Option ℕ
end_of base size = if nat_lt (base + size) (2 ^ 64) then Some (base + size) else None

-- a module of the list, by what it is known by
abbrev pub module_in : ModuleValue → LoadedValue
module_in m = let i = identity_of m in record {
  base = i.base;
  end = end_of i.base i.size;
  path = i.code_file;
  file = file_name i.code_file;
  version = i.version;
  code_id = i.code_identifier;
  debug_file = option_map file_name i.debug_file;
  debug_id = option_map breakpad_text i.debug_identifier;
}

-- a module of the list of those that were unloaded
abbrev pub unloaded_module_in : UnloadedValue → UnloadedModuleValue
unloaded_module_in m = record {
  base = m.raw.base_of_image;
  end = end_of m.raw.base_of_image m.raw.size_of_image;
  path = m.name;
  file = file_name m.name;
  code_id = Some (stamp_form m.raw.time_date_stamp m.raw.size_of_image);
}

-- the modules of the list
abbrev pub loaded_in : ContentsValue → List LoadedValue
loaded_in c = map module_in c.space.modules

-- ---- the order of their addresses

-- pairs of a base address and an index, compared by the address, and by the index where that is the
-- same
abbrev pub pair_cmp : ℕ × ℕ → ℕ × ℕ → Ordering
pair_cmp p q = ordering_then (nat_cmp p.0 q.0) (nat_cmp p.1 q.1)

-- the base address of each module with the index of the module
abbrev pub bases_of : List LoadedValue → List (ℕ × ℕ)
bases_of modules = map (λ p. (p.1.base, p.0)) (enumerate_from 0 modules)

-- the indices of modules, ascending by base address, then by index
abbrev pub by_address : List LoadedValue → List ℕ
by_address modules = map (λ p. p.1) (ascending pair_cmp (bases_of modules))

-- indices are by address: those in the pairs of a base and an index, one pair of each module, ascending
abbrev pub IsByAddress : List LoadedValue → List ℕ → Type 0
IsByAddress modules indices = (pairs : List (ℕ × ℕ)) × IsAscending pair_cmp (bases_of modules) pairs
    × (indices ≡ map (λ p. p.1) pairs)

-- ---- the entries that can't be read. The format has no list then: one such entry makes it an error

-- what of an entry can't be read: its name, else its CodeView record. An entry that has no addresses is
-- no module
abbrev pub part_in : Endian → List ℕ → MINIDUMP_MODULE → Option ModulePart
part_in order file raw = if is_none (range_of raw.base_of_image raw.size_of_image) then None
    else (if is_none (text16 order raw.module_name_rva file) then Some Name
    else (if is_err (read_module order None file raw) then Some CodeView else None))

-- an entry and its index, where something of it can't be read
abbrev pub unreadable_in : Endian → List ℕ → ℕ × MINIDUMP_MODULE → Option UnreadableModule
unreadable_in order file p = option_map (λ part. record {
  index = p.0;
  base = p.1.base_of_image;
  size = p.1.size_of_image;
  part = part;
}) (part_in order file p.1)

-- the entries of a list that can't be read
abbrev pub unreadable_among : Endian → List ℕ → List MINIDUMP_MODULE → List UnreadableModule
unreadable_among order file entries =
    filter_map (unreadable_in order file) (enumerate_from 0 entries)

-- the entries of the list of modules of a dump: none where its bytes or their framing can't be read
abbrev pub entries_in : Dump → List MINIDUMP_MODULE
entries_in d =
    unwrap_or (result_ok (and_then (raw_stream 4 d) (plain_list module_entry d.order))) []

-- those of them that can't be read: none where the list has no error
abbrev pub unreadable_by : Dump → Option Error → List UnreadableModule
unreadable_by d None = []
unreadable_by d (Some error) = unreadable_among d.order d.file (entries_in d)

-- ---- all of it

-- the modules of a dump with these contents: none were unloaded where the list of those can't be read
abbrev pub modules_in : Dump → ContentsValue → ModulesValue
modules_in d c = record {
  loaded = loaded_in c;
  by_address = by_address (loaded_in c);
  unreadable = unreadable_by d c.space.modules_error;
  unloaded = map unloaded_module_in (unwrap_or (result_ok c.space.unloaded) []);
}
