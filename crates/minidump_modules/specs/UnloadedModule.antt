-- Unloaded modules: Microsoft's MINIDUMP_UNLOADED_MODULE with its name.
use Rattle.std.specs.Prelude.{ℕ, List, is_some, Option, Some, None, Result, Ok, Err, if◌then◌else◌, string_bytes}
use Rattle.std.specs.Option.{ok_or}
use Rattle.minidump_bytes.specs.declared.endian.Endian.{Endian}
use Rattle.minidump_bytes.specs.Text16.{text16}
use Rattle.minidump_format.specs.declared.error.Error.{Error}
use Rattle.minidump_format.specs.declared.error.Error.TheVariants.{DataError, ModuleReadFailure}
use Rattle.minidump_format.specs.declared.format.module.MINIDUMP_UNLOADED_MODULE.{MINIDUMP_UNLOADED_MODULE}
use Rattle.minidump_index.specs.declared.range.Range.{Range}
use Rattle.minidump_index.specs.Overlap.{range_of}
use Rattle.minidump_system.specs.Reads.{and_then}
use Rattle.minidump_modules.specs.declared.unloaded_module.MinidumpUnloadedModule.{MinidumpUnloadedModule}
use Rattle.minidump_modules.specs.CodeId.{stamp_form}
use Rattle.minidump_modules.specs.Identity.{Identity}

-- an unloaded module as a value
pub record UnloadedValue : Type 0 where
  pub raw : MINIDUMP_UNLOADED_MODULE
  pub name : List ℕ

-- the unloaded module of a `MinidumpUnloadedModule`
abbrev pub unloaded_of : MinidumpUnloadedModule → UnloadedValue
unloaded_of m = record { raw = m.raw; name = string_bytes m.name }

-- an entry of a base address and a size, with zeros everywhere else
abbrev entry_of : ℕ → ℕ → MINIDUMP_UNLOADED_MODULE
entry_of base size = record {
  base_of_image = base;
  size_of_image = size;
  checksum = 0;
  time_date_stamp = 0;
  module_name_rva = 0;
}

-- a module that was made, not read
abbrev pub new_unloaded : ℕ → ℕ → List ℕ → UnloadedValue
new_unloaded base size name = record { raw = entry_of base size; name = name }

-- what an unloaded module is known by: it has no debug file and no version
abbrev pub unloaded_identity : MinidumpUnloadedModule → Identity
unloaded_identity m = record {
  base = m.raw.base_of_image;
  size = m.raw.size_of_image;
  code_file = string_bytes m.name;
  code_identifier = Some (stamp_form m.raw.time_date_stamp m.raw.size_of_image);
  debug_file = None;
  debug_identifier = None;
  version = None;
}

-- the addresses of an unloaded module as a value
abbrev pub range_of_unloaded : UnloadedValue → Option Range
range_of_unloaded m = range_of m.raw.base_of_image m.raw.size_of_image

-- the addresses of an unloaded module
abbrev pub range_of_unloaded_struct : MinidumpUnloadedModule → Option Range
range_of_unloaded_struct m = range_of m.raw.base_of_image m.raw.size_of_image

-- the module of an entry: its name is read
unfoldable pub read_unloaded : Endian → List ℕ → MINIDUMP_UNLOADED_MODULE
    → Result UnloadedValue Error
read_unloaded order file raw =
    and_then (ok_or (text16 order raw.module_name_rva file) DataError) (λ name. Ok (record {
      raw = raw;
      name = name;
    }))

-- the module of an entry of a list; one without addresses is an error
unfoldable pub unloaded_with_range : Endian → List ℕ → MINIDUMP_UNLOADED_MODULE
    → Result UnloadedValue Error
unloaded_with_range order file raw =
    if is_some (range_of raw.base_of_image raw.size_of_image) then read_unloaded order file raw
    else Err ModuleReadFailure
