-- Crashpad's information on a process and on its modules: MinidumpCrashpadInfo and
-- MinidumpModuleCrashpadInfo.
pub mod Parts
pub mod Dictionary
pub mod Annotations
pub mod Text
use Rattle.std.specs.Prelude.{ℕ, ◌+◌, ◌==◌, ◌⊎◌, IsOkAnd, IsSomeAnd, List, Result, Ok, Err, map, string_bytes}
use Rattle.std.specs.Prelude.{if◌then◌else◌, ◌*◌, ◌-◌}
use Rattle.std.specs.List.{sum_by}
use Rattle.std.specs.Option.{ok_or}
use Rattle.minidump_bytes.specs.declared.endian.Endian.{Endian}
use Rattle.minidump_bytes.specs.Layout.{number_layout}
use Rattle.minidump_bytes.specs.Span.{record_at}
use Rattle.minidump_format.specs.declared.format.stream_type.MINIDUMP_STREAM_TYPE.TheVariants.{CrashpadInfoStream}
use Rattle.minidump_format.specs.Crashpad.{annotation, crashpad_info, dictionary_entry, module_crashpad_info}
use Rattle.minidump_format.specs.Crashpad.{module_link}
use Rattle.minidump_format.specs.declared.error.Error.{Error}
use Rattle.minidump_format.specs.declared.error.Error.TheVariants.{StreamReadFailure, VersionMismatch}
use Rattle.minidump_format.specs.declared.format.crashpad.MINIDUMP_CRASHPAD_INFO.{MINIDUMP_CRASHPAD_INFO}
use Rattle.minidump_format.specs.declared.format.crashpad.MINIDUMP_MODULE_CRASHPAD_INFO.{MINIDUMP_MODULE_CRASHPAD_INFO}
use Rattle.minidump_format.specs.declared.format.crashpad.MINIDUMP_MODULE_CRASHPAD_INFO_LINK.{}
use Rattle.minidump_format.specs.declared.format.crashpad.MINIDUMP_MODULE_CRASHPAD_INFO_LINK.{}
use Rattle.minidump_format.specs.declared.format.crashpad.MINIDUMP_MODULE_CRASHPAD_INFO_LINK.{MINIDUMP_MODULE_CRASHPAD_INFO_LINK}
use Rattle.minidump_format.specs.declared.format.header.MINIDUMP_LOCATION_DESCRIPTOR.{MINIDUMP_LOCATION_DESCRIPTOR}
use Rattle.minidump_format.specs.StreamType.{number_of}
use Rattle.minidump_system.specs.StreamSpec.{StreamSpec}
use Rattle.minidump_system.specs.Reads.{and_then}
use Rattle.minidump_records.specs.declared.crashpad.info.MinidumpCrashpadInfo.{MinidumpCrashpadInfo}
use Rattle.minidump_records.specs.declared.crashpad.module_info.MinidumpModuleCrashpadInfo.{MinidumpModuleCrashpadInfo}
use Rattle.minidump_records.specs.Crashpad.Annotations.{Annotation, annotation_in, annotation_of, annotation_reads}
use Rattle.minidump_records.specs.Crashpad.Dictionary.{dictionary, entries_of, text_in}
use Rattle.minidump_records.specs.Crashpad.Parts.{CountsEntry, list_reads, tested_list}

-- the list of texts at a location, MinidumpRVAList: an entry is the RVA of a text
abbrev pub texts_at : Endian → List ℕ → MINIDUMP_LOCATION_DESCRIPTOR → Result (List (List ℕ)) Error
texts_at = tested_list (number_layout 4) text_in

-- the MinidumpSimpleStringDictionary at a location: an entry is the RVAs of a key and of a text
abbrev pub text_dictionary : Endian → List ℕ → MINIDUMP_LOCATION_DESCRIPTOR
    → Result (List (List ℕ × List ℕ)) Error
text_dictionary =
    dictionary dictionary_entry (λ e. e.key) (λ order file e. text_in order file e.value)

-- the MinidumpAnnotationList at a location: an entry is the RVA of a name, and a value by its type
abbrev pub annotation_dictionary : Endian → List ℕ → MINIDUMP_LOCATION_DESCRIPTOR
    → Result (List (List ℕ × Annotation)) Error
annotation_dictionary = dictionary annotation (λ e. e.name) annotation_in

-- the information on a module
pub record Module : Type 0 where
  pub raw : MINIDUMP_MODULE_CRASHPAD_INFO
  pub module_index : ℕ
  pub list_annotations : List (List ℕ)
  pub simple_annotations : List (List ℕ × List ℕ)
  pub annotation_objects : List (List ℕ × Annotation)

-- the information of a `MinidumpModuleCrashpadInfo`
abbrev pub module_of : MinidumpModuleCrashpadInfo → Module
module_of m = record {
  raw = m.raw;
  module_index = m.module_index;
  list_annotations = map string_bytes m.list_annotations.items;
  simple_annotations = entries_of string_bytes m.simple_annotations.entries;
  annotation_objects = entries_of annotation_of m.annotation_objects.entries;
}

-- the information on a module takes memory: one of its lists counts an entry
abbrev RecordTakesMemory : Endian → List ℕ → MINIDUMP_MODULE_CRASHPAD_INFO → Type 0
RecordTakesMemory order file raw =
    CountsEntry order file raw.list_annotations
    ⊎ (CountsEntry order file raw.simple_annotations
    ⊎ CountsEntry order file raw.annotation_objects)

-- the information that a link names takes memory
abbrev pub ModuleTakesMemory : Endian → List ℕ → MINIDUMP_MODULE_CRASHPAD_INFO_LINK → Type 0
ModuleTakesMemory order file link =
    IsSomeAnd (record_at module_crashpad_info order link.location.rva file)
    (RecordTakesMemory order file)

-- the information that a link names: its record, then its lists in the record's order. The size in
-- the link and the version in the record are ignored
unfoldable pub module_in : Endian → List ℕ → MINIDUMP_MODULE_CRASHPAD_INFO_LINK
    → Result Module Error
module_in order file link =
    and_then (ok_or (record_at module_crashpad_info order link.location.rva file) StreamReadFailure) (λ raw.
    and_then (texts_at order file raw.list_annotations) (λ texts.
    and_then (text_dictionary order file raw.simple_annotations) (λ simple.
    and_then (annotation_dictionary order file raw.annotation_objects) (λ objects.
    Ok (record {
      raw = raw;
      module_index = link.minidump_module_list_index;
      list_annotations = texts;
      simple_annotations = simple;
      annotation_objects = objects;
    })))))

-- the fewest reads of the information on a module: its record and its lists; for a text of a list
-- the entry and the text; for a pair the entry, the key, and the value if it is a text
abbrev pub module_reads : Module → ℕ
module_reads m = 1
    + (list_reads m.raw.list_annotations + sum_by (λ text. 2) m.list_annotations)
    + (list_reads m.raw.simple_annotations + sum_by (λ e. 3) m.simple_annotations)
    + (list_reads m.raw.annotation_objects
    + sum_by (λ e. 1 + (1 + annotation_reads e.1)) m.annotation_objects)

-- the most reads of the information that a link names, by the length of the file
abbrev pub most_of_link : ℕ → ℕ
most_of_link n = 2 * n + 16

-- the information on a process
pub record Crashpad : Type 0 where
  pub raw : MINIDUMP_CRASHPAD_INFO
  pub simple_annotations : List (List ℕ × List ℕ)
  pub module_list : List Module

-- the information of a `MinidumpCrashpadInfo`
abbrev pub crashpad_info_of : MinidumpCrashpadInfo → Crashpad
crashpad_info_of c = record {
  raw = c.raw;
  simple_annotations = entries_of string_bytes c.simple_annotations.entries;
  module_list = map module_of c.module_list.items;
}

-- the record at the start of the stream, whose version is not 0
unfoldable pub crashpad_record : Endian → List ℕ → Result MINIDUMP_CRASHPAD_INFO Error
crashpad_record order bytes =
    and_then (ok_or (record_at crashpad_info order 0 bytes) StreamReadFailure) (λ raw.
    if raw.version == 0 then Err VersionMismatch else Ok raw)

-- the information that the bytes of the stream give: the record, then its dictionary and its
-- MinidumpModuleCrashpadInfoList
unfoldable pub crashpad_info_in : Endian → List ℕ → List ℕ → Result Crashpad Error
crashpad_info_in order file bytes =
    and_then (crashpad_record order bytes) (λ raw.
    and_then (text_dictionary order file raw.simple_annotations) (λ simple.
    and_then (tested_list module_link module_in order file raw.module_list) (λ modules.
    Ok (record { raw = raw; simple_annotations = simple; module_list = modules }))))

-- the fewest reads of the information on a process: its record, its dictionary, and for each module
-- the link and the information on it
abbrev pub crashpad_reads : Crashpad → ℕ
crashpad_reads c = 1
    + (list_reads c.raw.simple_annotations + sum_by (λ e. 3) c.simple_annotations)
    + (list_reads c.raw.module_list + sum_by (λ m. 1 + module_reads m) c.module_list)

-- the record takes memory: its dictionary or its list of modules counts an entry
abbrev InfoTakesMemory : Endian → List ℕ → MINIDUMP_CRASHPAD_INFO → Type 0
InfoTakesMemory order file raw =
    CountsEntry order file raw.simple_annotations ⊎ CountsEntry order file raw.module_list

-- the stream of type CrashpadInfoStream
abbrev pub crashpad_info_stream : StreamSpec MinidumpCrashpadInfo Crashpad
crashpad_info_stream = record {
  stream_type = number_of CrashpadInfoStream;
  value = crashpad_info_of;
  meaning = λ order file bytes system. crashpad_info_in order file bytes;
  most = λ n. (n + 8) * (n + 8) - 1;
  fewest = λ order bytes system info. crashpad_reads info;
  memory =
      λ order file bytes system. IsOkAnd (crashpad_record order bytes) (InfoTakesMemory order file);
}
