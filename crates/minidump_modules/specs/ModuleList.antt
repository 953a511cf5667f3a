-- The modules of a dump: Microsoft's MINIDUMP_MODULE_LIST.
use Rattle.std.specs.Prelude.{ℕ, ◌+◌, ◌<◌, List, count_by, filter, length, map, not, Option, Result, Ok, IsOkAnd}
use Rattle.std.specs.List.{sum_by}
use Rattle.std.specs.Option.{option_map}
use Rattle.minidump_bytes.specs.declared.endian.Endian.{Endian}
use Rattle.minidump_format.specs.declared.format.stream_type.MINIDUMP_STREAM_TYPE.TheVariants.{ModuleListStream}
use Rattle.minidump_format.specs.declared.error.Error.{Error}
use Rattle.minidump_format.specs.declared.format.module.MINIDUMP_MODULE.{MINIDUMP_MODULE}
use Rattle.minidump_format.specs.Module.{module_entry}
use Rattle.minidump_format.specs.StreamType.{number_of}
use Rattle.minidump_system.specs.Framing.{count_of, plain_list}
use Rattle.minidump_system.specs.StreamSpec.{StreamSpec}
use Rattle.minidump_system.specs.declared.os.Os.{Os}
use Rattle.minidump_system.specs.SystemInfo.{System}
use Rattle.minidump_system.specs.Reads.{all_ok, and_then}
use Rattle.minidump_modules.specs.declared.module.MinidumpModule.{MinidumpModule}
use Rattle.minidump_modules.specs.declared.module_list.MinidumpModuleList.{MinidumpModuleList}
use Rattle.minidump_modules.specs.Module.{ModuleValue, has_range, module_of, module_reads, read_module}

-- the modules of a list, in its order
abbrev pub modules_of : MinidumpModuleList → List MinidumpModule
modules_of l = l.modules

-- the same as values
abbrev pub module_list_of : MinidumpModuleList → List ModuleValue
module_list_of l = map module_of (modules_of l)

-- the modules of a stream, and how many of its entries have no addresses
pub record ListedModules : Type 0 where
  pub modules : List ModuleValue
  pub without_addresses : ℕ

-- those of a list
abbrev pub listed_modules_of : MinidumpModuleList → ListedModules
listed_modules_of l = record {
  modules = module_list_of l;
  without_addresses = l.without_addresses;
}

-- the modules of entries; an entry without addresses is skipped whole
abbrev pub modules_in : Endian → Option Os → List ℕ → List MINIDUMP_MODULE
    → Result (List ModuleValue) Error
modules_in order os file raws = all_ok (read_module order os file) (filter has_range raws)

-- these modules, with how many of the entries have no addresses
abbrev pub listed_modules : List MINIDUMP_MODULE → List ModuleValue → ListedModules
listed_modules raws modules = record {
  modules = modules;
  without_addresses = count_by (λ raw. not (has_range raw)) raws;
}

-- the modules of entries, with how many of the entries have no addresses
abbrev pub listed_modules_in : Endian → Option Os → List ℕ → List MINIDUMP_MODULE
    → Result ListedModules Error
listed_modules_in order os file raws =
    and_then (modules_in order os file raws) (λ modules. Ok (listed_modules raws modules))

-- Microsoft's MINIDUMP_MODULE_LIST: a plain list of entries
abbrev pub module_list_in : Endian → List ℕ → List ℕ → Option System → Result ListedModules Error
module_list_in order file bytes system =
    and_then (plain_list module_entry order bytes)
    (listed_modules_in order (option_map (λ s. s.os) system) file)

-- the reads that modules take
abbrev pub modules_read : List ModuleValue → ℕ
modules_read modules = sum_by module_reads modules

-- the stream of type ModuleListStream
abbrev pub module_list_stream : StreamSpec MinidumpModuleList ListedModules
module_list_stream = record {
  stream_type = number_of ModuleListStream;
  value = listed_modules_of;
  meaning = module_list_in;
  most = λ n. n + 7;
  fewest = λ order bytes system listed. 1 + count_of order bytes + modules_read listed.modules;
  memory = λ order file bytes system. IsOkAnd (plain_list module_entry order bytes)
      (λ raws. 0 < length raws);
}
