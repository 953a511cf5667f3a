-- The text of Crashpad's information: of its record, of its dictionary, and of each of its modules
-- by index.
use Rattle.std.specs.Prelude.{ℕ, List, [], ◌∷◌, ◌++◌, codes}
use Rattle.std.specs.Fmt.{decimal}
use Rattle.std.specs.List.{concat, enumerate_from, flat_map}
use Rattle.minidump_format.specs.Guid.{guid_text}
use Rattle.minidump_format.specs.declared.format.crashpad.MINIDUMP_CRASHPAD_INFO.{MINIDUMP_CRASHPAD_INFO}
use Rattle.minidump_format.specs.Text.{line_end}
use Rattle.minidump_records.specs.Crashpad.{Crashpad, Module}
use Rattle.minidump_records.specs.Crashpad.Annotations.{Annotation, invalid, text, user_defined, unsupported}

-- the record of a process: its version and its two identifiers
unfoldable pub process_lines : ℕ → List ℕ → List ℕ → List ℕ
process_lines version report_id client_id = concat (
    codes "MDRawCrashpadInfo\n"
    ∷ codes "  version = " ∷ decimal version ∷ codes "\n"
    ∷ codes "  report_id = " ∷ report_id ∷ codes "\n"
    ∷ codes "  client_id = " ∷ client_id ∷ codes "\n"
    ∷ [])

-- the lines on the process: MinidumpCrashpadInfo's version, report_id and client_id
abbrev pub process_text : MINIDUMP_CRASHPAD_INFO → List ℕ
process_text raw = process_lines raw.version (guid_text raw.report_id) (guid_text raw.client_id)

-- a key of the dictionary of a process, and its text
unfoldable pub process_line : List ℕ × List ℕ → List ℕ
process_line e =
    concat (codes "  simple_annotations[\"" ∷ e.0 ∷ codes "\"] = " ∷ e.1 ∷ codes "\n" ∷ [])

-- the module at an index: what its link and its record state
unfoldable pub module_lines : ℕ × Module → List ℕ
module_lines m = concat (
    codes "  module_list[" ∷ decimal m.0 ∷ codes "].minidump_module_list_index = "
    ∷ decimal m.1.module_index ∷ codes "\n"
    ∷ codes "  module_list[" ∷ decimal m.0 ∷ codes "].version = "
    ∷ decimal m.1.raw.version ∷ codes "\n"
    ∷ [])

-- a text of the list of the module at an index, with its own index
unfoldable pub list_line : ℕ → ℕ × List ℕ → List ℕ
list_line m e =
    concat (codes "  module_list[" ∷ decimal m ∷ codes "].list_annotations[" ∷ decimal e.0
    ∷ codes "] = " ∷ e.1 ∷ codes "\n" ∷ [])

-- a key of the dictionary of the module at an index, and its text
unfoldable pub simple_line : ℕ → List ℕ × List ℕ → List ℕ
simple_line m e =
    concat (codes "  module_list[" ∷ decimal m ∷ codes "].simple_annotations[\"" ∷ e.0
    ∷ codes "\"] = " ∷ e.1 ∷ codes "\n" ∷ [])

-- an annotation: a text as it is, and the kind of any other
abbrev pub annotation_text : Annotation → List ℕ
annotation_text invalid = codes "<invalid>"
annotation_text (text bytes) = bytes
annotation_text (user_defined raw) = codes "<user defined>"
annotation_text (unsupported raw) = codes "<unsupported>"

-- a name of the module at an index, and its annotation
unfoldable pub object_line : ℕ → List ℕ × Annotation → List ℕ
object_line m e = concat (
    codes "  module_list[" ∷ decimal m ∷ codes "].annotation_objects[\"" ∷ e.0
    ∷ codes "\"] = " ∷ annotation_text e.1 ∷ codes "\n"
    ∷ [])

-- the lines of the dictionary and of the annotations of the module at an index
abbrev pub objects_text : ℕ × Module → List ℕ
objects_text m =
    flat_map (simple_line m.0) m.1.simple_annotations
    ++ flat_map (object_line m.0) m.1.annotation_objects

-- the lines on the module at an index: its own, and those of its list, of its dictionary and of its
-- annotations
abbrev pub module_text : ℕ × Module → List ℕ
module_text m =
    module_lines m ++ (flat_map (list_line m.0) (enumerate_from 0 m.1.list_annotations)
    ++ objects_text m)

-- the information on a process
abbrev pub crashpad_info_text : Crashpad → List ℕ
crashpad_info_text c =
    process_text c.raw ++ (flat_map process_line c.simple_annotations
    ++ (flat_map module_text (enumerate_from 0 c.module_list) ++ line_end))
