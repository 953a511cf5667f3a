-- Modules: Microsoft's MINIDUMP_MODULE with its name and its CodeView record.
use Rattle.std.specs.Prelude.{ℕ, ◌+◌, ◌⊎◌, Bool, List, is_some, IsSome, replicate, Option, None, Result, Ok}
use Rattle.std.specs.Prelude.{string_bytes}
use Rattle.std.specs.Option.{ok_or, option_map}
use Rattle.hex.specs.Hex.{encode_lower}
use Rattle.minidump_bytes.specs.declared.endian.Endian.{Endian}
use Rattle.minidump_bytes.specs.declared.endian.Endian.TheVariants.{Little}
use Rattle.minidump_bytes.specs.Text16.{TakesMemory16, text16}
use Rattle.minidump_format.specs.declared.error.Error.{Error}
use Rattle.minidump_format.specs.declared.error.Error.TheVariants.{CodeViewReadFailure}
use Rattle.minidump_format.specs.declared.format.module.MINIDUMP_MODULE.{MINIDUMP_MODULE}
use Rattle.minidump_index.specs.declared.range.Range.{Range}
use Rattle.minidump_index.specs.Overlap.{range_of}
use Rattle.minidump_system.specs.declared.os.Os.{Os}
use Rattle.minidump_system.specs.Reads.{and_then}
use Rattle.minidump_modules.specs.declared.module.CodeSource.{CodeSource}
use Rattle.minidump_modules.specs.declared.module.CodeSource.TheVariants.{Stamp, Guid, BuildId}
use Rattle.minidump_modules.specs.declared.module.MinidumpModule.{MinidumpModule}
use Rattle.minidump_modules.specs.CodeId.{stamp_form}
use Rattle.minidump_modules.specs.CodeView.{View, ViewTakesMemory, code_view_at, view_of, view_reads}
use Rattle.minidump_modules.specs.Identity.{Identity, code_identifier, debug_file, debug_identifier}
use Rattle.minidump_modules.specs.Version.{version_of}

-- a module as a value: with the byte order and the system of its dump
pub record ModuleValue : Type 0 where
  pub raw : MINIDUMP_MODULE
  pub name : List ℕ
  pub view : Option View
  pub order : Endian
  pub os : Option Os

-- the module of a `MinidumpModule`, as its fields have it
abbrev pub module_of : MinidumpModule → ModuleValue
module_of m = record {
  raw = m.raw;
  name = string_bytes m.name;
  view = option_map view_of m.codeview_info;
  order = m.endian;
  os = m.os;
}

-- an entry of a base address and a size, with zeros everywhere else
abbrev entry_of : ℕ → ℕ → MINIDUMP_MODULE
entry_of base size = record {
  base_of_image = base;
  size_of_image = size;
  checksum = 0;
  time_date_stamp = 0;
  module_name_rva = 0;
  version_info = record {
    signature = 0;
    struct_version = 0;
    file_version_hi = 0;
    file_version_lo = 0;
    product_version_hi = 0;
    product_version_lo = 0;
    file_flags_mask = 0;
    file_flags = 0;
    file_os = 0;
    file_type = 0;
    file_subtype = 0;
    file_date_hi = 0;
    file_date_lo = 0;
  };
  cv_record = record { data_size = 0; rva = 0 };
  misc_record = record { data_size = 0; rva = 0 };
  unused1 = replicate 16 0;
}

-- a module that was made, not read: of no known system, without a CodeView record
abbrev pub new_module : ℕ → ℕ → List ℕ → ModuleValue
new_module base size name = record {
  raw = entry_of base size;
  name = name;
  view = None;
  order = Little;
  os = None;
}

-- what a module is known by
abbrev pub identity_of : ModuleValue → Identity
identity_of m = record {
  base = m.raw.base_of_image;
  size = m.raw.size_of_image;
  code_file = m.name;
  code_identifier = code_identifier m.os m.raw.time_date_stamp m.raw.size_of_image m.view;
  debug_file = debug_file m.name m.view;
  debug_identifier = debug_identifier m.order m.view;
  version = version_of m.os m.raw.version_info;
}

-- the names, the identifiers and the version of a `MinidumpModule`
abbrev pub module_identity : MinidumpModule → Identity
module_identity m = identity_of (module_of m)

-- the code identifier that a module's time stamp and size make, or the bytes of a GUID or a build
-- id
abbrev pub source_text : MINIDUMP_MODULE → CodeSource → List ℕ
source_text raw Stamp = stamp_form raw.time_date_stamp raw.size_of_image
source_text raw (Guid bytes) = encode_lower bytes
source_text raw (BuildId id) = encode_lower id.now

-- the addresses of a module as a value
abbrev pub range_of_module : ModuleValue → Option Range
range_of_module m = range_of m.raw.base_of_image m.raw.size_of_image

-- the addresses of a module
abbrev pub range_of_module_struct : MinidumpModule → Option Range
range_of_module_struct m = range_of m.raw.base_of_image m.raw.size_of_image

-- the module of an entry: its name, and then its CodeView record
unfoldable pub read_module : Endian → Option Os → List ℕ → MINIDUMP_MODULE
    → Result ModuleValue Error
read_module order os file raw =
    and_then (ok_or (text16 order raw.module_name_rva file) CodeViewReadFailure) (λ name.
    and_then (code_view_at order file raw.cv_record) (λ view.
    Ok (record { raw = raw; name = name; view = view; order = order; os = os })))

-- the read of an entry's module takes memory: its name has a code unit, or is a text and its
-- CodeView record has bytes to copy
abbrev pub ModuleTakesMemory : Endian → List ℕ → MINIDUMP_MODULE → Type 0
ModuleTakesMemory order file raw =
    TakesMemory16 order raw.module_name_rva file
    ⊎ (IsSome (text16 order raw.module_name_rva file)
    × ViewTakesMemory (code_view_at order file raw.cv_record))

-- the reads that a module takes: one for its name, and those of its CodeView record
abbrev pub module_reads : ModuleValue → ℕ
module_reads m = 1 + view_reads m.view

-- an entry with addresses
unfoldable pub has_range : MINIDUMP_MODULE → Bool
has_range raw = is_some (range_of raw.base_of_image raw.size_of_image)
