-- What symbol tools know a module by: its code identifier, its debug identifier (Breakpad's), the
-- names of both files and the version.
use Rattle.std.specs.Prelude.{ℕ, ◌-◌, ◌==◌, ◌++◌, Bool, List, length, take, replicate, Option, Some, None}
use Rattle.std.specs.Prelude.{if◌then◌else◌}
use Rattle.std.specs.List.{list_all}
use Rattle.hex.specs.Hex.{encode_lower}
use Rattle.uuid.specs.Parts.{is_nil_bytes}
use Rattle.minidump_bytes.specs.declared.endian.Endian.{Endian}
use Rattle.minidump_format.specs.Guid.{guid, guid_bytes}
use Rattle.minidump_system.specs.declared.os.Os.{Os}
use Rattle.minidump_modules.specs.declared.debug_id.DebugId.{DebugId}
use Rattle.minidump_modules.specs.CodeId.{stamp_form}
use Rattle.minidump_modules.specs.CodeView.{View, pdb70, pdb20, elf, unknown, lossy_name}
use Rattle.minidump_modules.specs.DebugId.{by_guid, by_stamp}
use Rattle.minidump_modules.specs.Version.{is_apple, is_windows}

-- all that a module is known by, and where it was in memory
pub record Identity : Type 0 where
  pub base : ℕ
  pub size : ℕ
  pub code_file : List ℕ
  pub code_identifier : Option (List ℕ)
  pub debug_file : Option (List ℕ)
  pub debug_identifier : Option DebugId
  pub version : Option (List ℕ)

-- a build id that is empty, or all zeros
unfoldable pub is_all_zeros : List ℕ → Bool
is_all_zeros id = list_all (λ b. b == 0) id

-- the first 16 bytes of a build id, with zeros after it where it is shorter
unfoldable pub pad_to_16 : List ℕ → List ℕ
pad_to_16 id = take 16 id ++ replicate (16 - length id) 0

-- the code identifier, by the system, the time stamp, the size and the CodeView record
abbrev pub code_identifier : Option Os → ℕ → ℕ → Option View → Option (List ℕ)
code_identifier os stamp size (Some (pdb70 s g age name)) =
    Some (if is_apple os then encode_lower (guid_bytes g) else stamp_form stamp size)
code_identifier os stamp size (Some (pdb20 s offset signature age name)) =
    Some (stamp_form stamp size)
code_identifier os stamp size (Some (elf s id)) =
    if is_all_zeros id then None else Some (encode_lower id)
code_identifier os stamp size (Some (unknown bytes)) = None
code_identifier os stamp size None = if is_windows os then Some (stamp_form stamp size) else None

-- the debug identifier, by the CodeView record; a build id is a GUID in the byte order of the dump
abbrev pub debug_identifier : Endian → Option View → Option DebugId
debug_identifier order (Some (pdb70 s g age name)) =
    if is_nil_bytes (guid_bytes g) then None else Some (by_guid (guid_bytes g) age)
debug_identifier order (Some (pdb20 s offset signature age name)) = Some (by_stamp signature age)
debug_identifier order (Some (elf s id)) =
    if is_all_zeros id then None
    else Some (by_guid (guid_bytes (guid.value order (pad_to_16 id))) 0)
debug_identifier order (Some (unknown bytes)) = None
debug_identifier order None = None

-- the debug file, by the name in the CodeView record; an ELF file is its own debug file
abbrev pub debug_file : List ℕ → Option View → Option (List ℕ)
debug_file own (Some (pdb70 s g age name)) = Some (lossy_name name)
debug_file own (Some (pdb20 s offset signature age name)) = Some (lossy_name name)
debug_file own (Some (elf s id)) = Some own
debug_file own (Some (unknown bytes)) = None
debug_file own None = None
