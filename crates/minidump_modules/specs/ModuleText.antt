-- The printed texts of modules, loaded and unloaded, and of their lists: MINIDUMP_MODULE and
-- MINIDUMP_UNLOADED_MODULE.
use Rattle.std.specs.Prelude.{ℕ, List, [], ◌∷◌, ◌++◌, codes, Option, Some, None}
use Rattle.std.specs.Fmt.{decimal}
use Rattle.std.specs.List.{concat}
use Rattle.hex.specs.Hex.{encode_lower}
use Rattle.minidump_bytes.specs.Piece.{hex}
use Rattle.minidump_format.specs.declared.format.module.MINIDUMP_MODULE.{MINIDUMP_MODULE}
use Rattle.minidump_format.specs.declared.format.module.VS_FIXEDFILEINFO.{VS_FIXEDFILEINFO}
use Rattle.minidump_format.specs.Numbered.{numbered_list}
use Rattle.minidump_system.specs.Dates.{date_text_of}
use Rattle.minidump_modules.specs.declared.debug_id.DebugId.{DebugId}
use Rattle.minidump_modules.specs.CodeId.{stamp_form}
use Rattle.minidump_modules.specs.CodeView.{View, pdb70, pdb20, elf, unknown, lossy_name}
use Rattle.minidump_format.specs.Guid.{guid_text}
use Rattle.minidump_modules.specs.DebugId.{debug_id_text}
use Rattle.minidump_modules.specs.Module.{ModuleValue, identity_of}
use Rattle.minidump_modules.specs.UnloadedModule.{UnloadedValue}

-- a text, or nothing where it is absent
abbrev pub or_empty : Option (List ℕ) → List ℕ
or_empty (Some text) = text
or_empty None = []

-- the lines that the entries of both kinds begin with
unfoldable pub entry_text : ℕ → ℕ → ℕ → ℕ → ℕ → List ℕ
entry_text base size checksum stamp name_rva = concat (
    codes "  base_of_image                   = " ∷ hex base ∷ codes "\n"
    ∷ codes "  size_of_image                   = " ∷ hex size ∷ codes "\n"
    ∷ codes "  checksum                        = " ∷ hex checksum ∷ codes "\n"
    ∷ codes "  time_date_stamp                 = " ∷ hex stamp ∷ codes " " ∷ date_text_of stamp ∷ codes "\n"
    ∷ codes "  module_name_rva                 = " ∷ hex name_rva ∷ codes "\n"
    ∷ [])

-- Microsoft's VS_FIXEDFILEINFO
unfoldable pub version_info_text : VS_FIXEDFILEINFO → List ℕ
version_info_text v = concat (
    codes "  version_info.signature          = " ∷ hex v.signature ∷ codes "\n"
    ∷ codes "  version_info.struct_version     = " ∷ hex v.struct_version ∷ codes "\n"
    ∷ codes "  version_info.file_version       = " ∷ hex v.file_version_hi ∷ codes ":" ∷ hex v.file_version_lo ∷ codes "\n"
    ∷ codes "  version_info.product_version    = " ∷ hex v.product_version_hi ∷ codes ":" ∷ hex v.product_version_lo ∷ codes "\n"
    ∷ codes "  version_info.file_flags_mask    = " ∷ hex v.file_flags_mask ∷ codes "\n"
    ∷ codes "  version_info.file_flags         = " ∷ hex v.file_flags ∷ codes "\n"
    ∷ codes "  version_info.file_os            = " ∷ hex v.file_os ∷ codes "\n"
    ∷ codes "  version_info.file_type          = " ∷ hex v.file_type ∷ codes "\n"
    ∷ codes "  version_info.file_subtype       = " ∷ hex v.file_subtype ∷ codes "\n"
    ∷ codes "  version_info.file_date          = " ∷ hex v.file_date_hi ∷ codes ":" ∷ hex v.file_date_lo ∷ codes "\n"
    ∷ [])

-- where the debug records are
unfoldable pub locations_text : MINIDUMP_MODULE → List ℕ
locations_text raw = concat (
    codes "  cv_record.data_size             = " ∷ decimal raw.cv_record.data_size ∷ codes "\n"
    ∷ codes "  cv_record.rva                   = " ∷ hex raw.cv_record.rva ∷ codes "\n"
    ∷ codes "  misc_record.data_size           = " ∷ decimal raw.misc_record.data_size ∷ codes "\n"
    ∷ codes "  misc_record.rva                 = " ∷ hex raw.misc_record.rva ∷ codes "\n"
    ∷ [])

-- the entry of a loaded module
unfoldable pub raw_text : MINIDUMP_MODULE → List ℕ
raw_text raw =
    codes "MINIDUMP_MODULE\n"
    ++ (entry_text raw.base_of_image raw.size_of_image raw.checksum raw.time_date_stamp raw.module_name_rva
    ++ (version_info_text raw.version_info ++ locations_text raw))

-- the name of the file and the identifier of its code
unfoldable pub code_text : List ℕ → List ℕ → List ℕ
code_text file identifier = concat (
    codes "  (code_file)                     = \"" ∷ file ∷ codes "\"\n"
    ∷ codes "  (code_identifier)               = \"" ∷ identifier ∷ codes "\"\n"
    ∷ [])

-- a Pdb70 record, CV_INFO_PDB70
unfoldable pub pdb70_text : ℕ → List ℕ → ℕ → List ℕ → List ℕ
pdb70_text signature guid age name = concat (
    codes "  (cv_record).cv_signature        = " ∷ hex signature ∷ codes "\n"
    ∷ codes "  (cv_record).signature           = " ∷ guid ∷ codes "\n"
    ∷ codes "  (cv_record).age                 = " ∷ decimal age ∷ codes "\n"
    ∷ codes "  (cv_record).pdb_file_name       = \"" ∷ name ∷ codes "\"\n"
    ∷ [])

-- a Pdb20 record, CV_INFO_PDB20
unfoldable pub pdb20_text : ℕ → ℕ → ℕ → List ℕ → ℕ → List ℕ → List ℕ
pdb20_text signature offset stamp date age name = concat (
    codes "  (cv_record).cv_header.signature = " ∷ hex signature ∷ codes "\n"
    ∷ codes "  (cv_record).cv_header.offset    = " ∷ hex offset ∷ codes "\n"
    ∷ codes "  (cv_record).signature           = " ∷ hex stamp ∷ codes " " ∷ date ∷ codes "\n"
    ∷ codes "  (cv_record).age                 = " ∷ decimal age ∷ codes "\n"
    ∷ codes "  (cv_record).pdb_file_name       = \"" ∷ name ∷ codes "\"\n"
    ∷ [])

-- an ELF record, CV_INFO_ELF
unfoldable pub elf_text : ℕ → List ℕ → List ℕ
elf_text signature id = concat (
    codes "  (cv_record).cv_signature        = " ∷ hex signature ∷ codes "\n"
    ∷ codes "  (cv_record).build_id            = " ∷ encode_lower id ∷ codes "\n"
    ∷ [])

-- a record with another signature
unfoldable pub unknown_text : List ℕ → List ℕ
unknown_text bytes =
    concat (codes "  (cv_record)                     = " ∷ encode_lower bytes ∷ codes "\n" ∷ [])

-- the CodeView record
abbrev pub view_text : Option View → List ℕ
view_text (Some (pdb70 s g age name)) = pdb70_text s (guid_text g) age (lossy_name name)
view_text (Some (pdb20 s offset stamp age name)) =
    pdb20_text s offset stamp (date_text_of stamp) age (lossy_name name)
view_text (Some (elf s id)) = elf_text s id
view_text (Some (unknown bytes)) = unknown_text bytes
view_text None = codes "  (cv_record)                     = (null)\n"

-- a debug identifier, or the nil GUID where it is absent
abbrev pub or_nil : Option DebugId → List ℕ
or_nil (Some id) = debug_id_text id
or_nil None = codes "00000000-0000-0000-0000-000000000000"

-- the misc record, which isn't read, what symbol tools ask for, and an empty line
unfoldable pub debug_text : List ℕ → List ℕ → List ℕ → List ℕ
debug_text file identifier version = concat (
    codes "  (misc_record)                   = (null)\n"
    ∷ codes "  (debug_file)                    = \"" ∷ file ∷ codes "\"\n"
    ∷ codes "  (debug_identifier)              = \"" ∷ identifier ∷ codes "\"\n"
    ∷ codes "  (version)                       = \"" ∷ version ∷ codes "\"\n"
    ∷ codes "\n"
    ∷ [])

-- a loaded module
unfoldable pub module_text : ModuleValue → List ℕ
module_text m =
    raw_text m.raw
    ++ (code_text m.name (or_empty (identity_of m).code_identifier)
    ++ (view_text m.view
    ++ debug_text (or_empty (identity_of m).debug_file) (or_nil (identity_of m).debug_identifier)
    (or_empty (identity_of m).version)))

-- an unloaded module, with no empty line after it
unfoldable pub unloaded_text : UnloadedValue → List ℕ
unloaded_text m =
    codes "MINIDUMP_UNLOADED_MODULE\n"
    ++ (entry_text m.raw.base_of_image m.raw.size_of_image m.raw.checksum m.raw.time_date_stamp m.raw.module_name_rva
    ++ code_text m.name (stamp_form m.raw.time_date_stamp m.raw.size_of_image))

-- the list of loaded modules, MINIDUMP_MODULE_LIST: how many they are, and each after its index
abbrev pub module_list_text : List ModuleValue → List ℕ
module_list_text modules =
    numbered_list (codes "MinidumpModuleList\n  module_count = ")
    (codes "module") module_text modules

-- the list of unloaded modules, MINIDUMP_UNLOADED_MODULE_LIST
abbrev pub unloaded_module_list_text : List UnloadedValue → List ℕ
unloaded_module_list_text modules =
    numbered_list (codes "MinidumpUnloadedModuleList\n  module_count = ") (codes "module") unloaded_text modules
