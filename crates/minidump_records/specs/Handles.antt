-- The open handles of a process: Microsoft's MINIDUMP_HANDLE_DATA_STREAM.
pub mod Descriptor
pub mod ObjectChain
use Rattle.std.specs.Prelude.{ℕ, ◌+◌, ◌==◌, List, [], ◌∷◌, ◌++◌, codes, Option, None, Result, Ok, map, string_bytes}
use Rattle.std.specs.Prelude.{if◌then◌else◌, IsOkAnd, ◌<◌, length, ◌*◌, ◌-◌}
use Rattle.std.specs.List.{concat, flat_map, sum_by, filter_map}
use Rattle.std.specs.Fmt.{decimal}
use Rattle.std.specs.Option.{option_map, unwrap_or}
use Rattle.minidump_bytes.specs.declared.endian.Endian.{Endian}
use Rattle.minidump_bytes.specs.Piece.{hex, or_invalid}
use Rattle.minidump_bytes.specs.Text16.{text16}
use Rattle.minidump_format.specs.declared.format.handle.MINIDUMP_HANDLE_DESCRIPTOR.{MINIDUMP_HANDLE_DESCRIPTOR}
use Rattle.minidump_format.specs.declared.format.stream_type.MINIDUMP_STREAM_TYPE.TheVariants.{HandleDataStream}
use Rattle.minidump_format.specs.declared.error.Error.{Error}
use Rattle.minidump_format.specs.StreamType.{number_of}
use Rattle.minidump_system.specs.Chain.{chain_within, reads_at}
use Rattle.minidump_system.specs.StreamSpec.{StreamSpec}
use Rattle.minidump_system.specs.declared.framing.HandleEntries.{HandleEntries}
use Rattle.minidump_system.specs.declared.framing.HandleEntries.TheVariants.{Short, Long}
use Rattle.minidump_system.specs.Framing.{handle_list, handles_in}
use Rattle.minidump_system.specs.Reads.{and_then}
use Rattle.minidump_records.specs.declared.handles.data_stream.MinidumpHandleDataStream.{MinidumpHandleDataStream}
use Rattle.minidump_records.specs.declared.handles.descriptor.MinidumpHandleDescriptor.{MinidumpHandleDescriptor}
use Rattle.minidump_records.specs.declared.handles.information.MinidumpHandleObjectInformation.{}
use Rattle.minidump_records.specs.declared.handles.information.MinidumpHandleObjectInformation.{}
use Rattle.minidump_records.specs.declared.handles.information.MinidumpHandleObjectInformation.{MinidumpHandleObjectInformation}
use Rattle.minidump_records.specs.declared.handles.raw.RawHandleDescriptor.{RawHandleDescriptor}
use Rattle.minidump_records.specs.declared.handles.raw.RawHandleDescriptor.TheVariants.{HandleDescriptor}
use Rattle.minidump_records.specs.declared.handles.raw.RawHandleDescriptor.TheVariants.{HandleDescriptor2}
use Rattle.minidump_records.specs.Handles.Descriptor.{object_info_rva, object_name_rva, type_name_rva}
use Rattle.minidump_records.specs.Handles.ObjectChain.{chain_reads, information_at, information_text, next_of}
use Rattle.minidump_format.specs.Numbered.{numbered_list}

-- ---- a handle

-- its descriptor, its names in UTF-8, and the information on its object
pub record Handle : Type 0 where
  pub raw : RawHandleDescriptor
  pub type_name : Option (List ℕ)
  pub object_name : Option (List ℕ)
  pub object_infos : List MinidumpHandleObjectInformation

-- the handle of a `MinidumpHandleDescriptor`
abbrev pub handle_of : MinidumpHandleDescriptor → Handle
handle_of h = record {
  raw = h.raw;
  type_name = option_map string_bytes h.type_name;
  object_name = option_map string_bytes h.object_name;
  object_infos = h.object_infos.items;
}

-- an RVA of a descriptor, or 0 where its layout has no such field
abbrev pub or_zero : Option ℕ → ℕ
or_zero rva = unwrap_or rva 0

-- the name at an RVA: none at 0, and where no text is. The RVA of a text in another stream is
-- looked at also where it is 0
unfoldable pub name_at_rva : Endian → List ℕ → ℕ → Option (List ℕ)
name_at_rva order file rva = if rva == 0 then None else text16 order rva file

-- the offsets of the object chain from a link, each of which lies in the file: by the law
-- `object_chain_is_the_longest` they are the one list that meets `IsChain` of `minidump_system`'s
-- Chain.antt. An offset without a piece of information ends it, and is no error
unfoldable pub chain_offsets : Endian → List ℕ → ℕ → List ℕ
chain_offsets order file link = chain_within (information_at order file) next_of link (length file)

-- the pieces of information that stand at them
unfoldable pub object_chain : Endian → List ℕ → ℕ → List MinidumpHandleObjectInformation
object_chain order file link =
    filter_map (information_at order file) (chain_offsets order file link)

-- the handle of a descriptor
abbrev pub handle_in : Endian → List ℕ → RawHandleDescriptor → Handle
handle_in order file raw = record {
  raw = raw;
  type_name = name_at_rva order file (or_zero (type_name_rva raw));
  object_name = name_at_rva order file (or_zero (object_name_rva raw));
  object_infos = object_chain order file (or_zero (object_info_rva raw));
}

-- the reads of the names of a handle and of the information on its object
abbrev pub handle_reads : Handle → ℕ
handle_reads h =
    reads_at (or_zero (type_name_rva h.raw)) + reads_at (or_zero (object_name_rva h.raw))
    + chain_reads (or_zero (object_info_rva h.raw)) h.object_infos

-- ---- the stream

-- its handles, in the order of the list
abbrev pub handle_data_of : MinidumpHandleDataStream → List Handle
handle_data_of s = map handle_of s.handles.items

-- the handles of descriptors of either layout
abbrev pub all_handles : Endian → List ℕ → HandleEntries → List Handle
all_handles order file (Short raws) = map (λ r. handle_in order file (HandleDescriptor r)) raws
all_handles order file (Long raws) = map (λ r. handle_in order file (HandleDescriptor2 r)) raws

-- Microsoft's MINIDUMP_HANDLE_DATA_STREAM: a handle list
abbrev pub handle_data_in : Endian → List ℕ → List ℕ → Result (List Handle) Error
handle_data_in order file bytes =
    and_then (handle_list order bytes) (λ list. Ok (all_handles order file list))

-- the stream of type HandleDataStream
abbrev pub handle_data_stream : StreamSpec MinidumpHandleDataStream (List Handle)
handle_data_stream = record {
  stream_type = number_of HandleDataStream;
  value = handle_data_of;
  meaning = λ order file bytes system. handle_data_in order file bytes;
  most = λ n. (n + 8) * (n + 8) - 1;
  fewest = λ order bytes system handles. 1 + length handles + sum_by handle_reads handles;
  memory =
      λ order file bytes system. IsOkAnd (handle_list order bytes) (λ list. 0 < handles_in list);
}

-- ---- the printed text

-- the fields that both layouts have
abbrev pub shared_fields : RawHandleDescriptor → MINIDUMP_HANDLE_DESCRIPTOR
shared_fields (HandleDescriptor raw) = raw
shared_fields (HandleDescriptor2 raw) = record {
  handle = raw.handle;
  type_name_rva = raw.type_name_rva;
  object_name_rva = raw.object_name_rva;
  attributes = raw.attributes;
  granted_access = raw.granted_access;
  handle_count = raw.handle_count;
  pointer_count = raw.pointer_count;
}

-- the lines of the descriptor, headed MINIDUMP_HANDLE_DESCRIPTOR in either layout
unfoldable pub fields_text : MINIDUMP_HANDLE_DESCRIPTOR → Option ℕ → List ℕ
fields_text raw info_rva = concat (
    codes "MINIDUMP_HANDLE_DESCRIPTOR\n"
    ∷ codes "  handle            = " ∷ hex raw.handle ∷ codes "\n"
    ∷ codes "  type_name_rva     = " ∷ hex raw.type_name_rva ∷ codes "\n"
    ∷ codes "  object_name_rva   = " ∷ hex raw.object_name_rva ∷ codes "\n"
    ∷ codes "  attributes        = " ∷ hex raw.attributes ∷ codes "\n"
    ∷ codes "  granted_access    = " ∷ hex raw.granted_access ∷ codes "\n"
    ∷ codes "  handle_count      = " ∷ decimal raw.handle_count ∷ codes "\n"
    ∷ codes "  pointer_count     = " ∷ decimal raw.pointer_count ∷ codes "\n"
    ∷ codes "  object_info_rva   = " ∷ or_invalid hex info_rva ∷ codes "\n"
    ∷ [])

-- its names, without quotes
unfoldable pub names_text : List ℕ → List ℕ → List ℕ
names_text type_name object_name = concat (
    codes "  (type_name)       = " ∷ type_name ∷ codes "\n"
    ∷ codes "  (object_name)     = " ∷ object_name ∷ codes "\n"
    ∷ [])

-- a name, or `(null)`
abbrev pub or_null : Option (List ℕ) → List ℕ
or_null name = unwrap_or name (codes "(null)")

-- the label of a line of information on the object
unfoldable pub info_label : List ℕ
info_label = codes "  (object_info)     = "

-- the line of a piece of information on an object
unfoldable pub info_line : MinidumpHandleObjectInformation → List ℕ
info_line i = info_label ++ (information_text i ++ codes "\n")

-- the line of an object without information
unfoldable pub no_info_line : List ℕ
no_info_line = info_label ++ codes "(null)\n"

-- the lines of the information on an object
abbrev pub infos_text : List MinidumpHandleObjectInformation → List ℕ
infos_text infos = if length infos == 0 then no_info_line else flat_map info_line infos

-- a handle
abbrev pub handle_text : Handle → List ℕ
handle_text h =
    fields_text (shared_fields h.raw) (object_info_rva h.raw)
    ++ (names_text (or_null h.type_name) (or_null h.object_name)
    ++ (infos_text h.object_infos ++ codes "\n"))

-- the list: the number of handles, and each of them
abbrev pub handle_data_text : List Handle → List ℕ
handle_data_text handles =
    numbered_list (codes "MinidumpHandleDataStream\n  handle_count = ")
    (codes "handle") handle_text handles
