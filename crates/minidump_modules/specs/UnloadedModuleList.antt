-- The unloaded modules of a dump: Microsoft's MINIDUMP_UNLOADED_MODULE_LIST.
use Rattle.std.specs.Prelude.{ℕ, ◌+◌, ◌*◌, ◌<◌, List, length, map, Result, IsOkAnd}
use Rattle.minidump_bytes.specs.declared.endian.Endian.{Endian}
use Rattle.minidump_format.specs.declared.format.stream_type.MINIDUMP_STREAM_TYPE.TheVariants.{UnloadedModuleListStream}
use Rattle.minidump_format.specs.declared.error.Error.{Error}
use Rattle.minidump_format.specs.Module.{unloaded_module_entry}
use Rattle.minidump_format.specs.StreamType.{number_of}
use Rattle.minidump_system.specs.Framing.{list_header_of, extended_list}
use Rattle.minidump_system.specs.StreamSpec.{StreamSpec}
use Rattle.minidump_system.specs.Reads.{all_ok, and_then}
use Rattle.minidump_modules.specs.declared.unloaded_module_list.MinidumpUnloadedModuleList.{MinidumpUnloadedModuleList}
use Rattle.minidump_modules.specs.declared.unloaded_module.MinidumpUnloadedModule.{MinidumpUnloadedModule}
use Rattle.minidump_modules.specs.UnloadedModule.{UnloadedValue, unloaded_with_range, unloaded_of}

-- the modules of a list as values, in its order
abbrev pub unloaded_module_list_of : List MinidumpUnloadedModule → List UnloadedValue
unloaded_module_list_of modules = map unloaded_of modules

-- Microsoft's MINIDUMP_UNLOADED_MODULE_LIST: an extended list of entries
abbrev pub unloaded_module_list_in : Endian → List ℕ → List ℕ → Result (List UnloadedValue) Error
unloaded_module_list_in order file bytes =
    and_then (extended_list unloaded_module_entry order bytes)
    (all_ok (unloaded_with_range order file))

-- the stream of type UnloadedModuleListStream
abbrev pub unloaded_module_list_stream : StreamSpec MinidumpUnloadedModuleList (List UnloadedValue)
unloaded_module_list_stream = record {
  stream_type = number_of UnloadedModuleListStream;
  value = unloaded_module_list_of;
  meaning = λ order file bytes system. unloaded_module_list_in order file bytes;
  most = λ n. n + 7;
  fewest = λ order bytes system modules. 1 + 2 * (list_header_of order bytes).number_of_entries;
  memory = λ order file bytes system. IsOkAnd (extended_list unloaded_module_entry order bytes)
      (λ raws. 0 < length raws);
}
