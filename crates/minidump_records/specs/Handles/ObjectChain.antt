-- The pieces of information on the object of a handle, each of which names the next: Microsoft's
-- MINIDUMP_HANDLE_OBJECT_INFORMATION.
use Rattle.std.specs.Prelude.{ℕ, ◌+◌, List, [], ◌∷◌, ◌++◌, codes, length, false, Option}
use Rattle.std.specs.Fmt.{digits}
use Rattle.std.specs.Option.{option_and_then, option_map}
use Rattle.minidump_bytes.specs.declared.endian.Endian.{Endian}
use Rattle.minidump_format.specs.declared.format.handle.MINIDUMP_HANDLE_OBJECT_INFORMATION.{}
use Rattle.minidump_format.specs.declared.format.handle.MINIDUMP_HANDLE_OBJECT_INFORMATION.{}
use Rattle.minidump_format.specs.declared.format.handle.MINIDUMP_HANDLE_OBJECT_INFORMATION.{MINIDUMP_HANDLE_OBJECT_INFORMATION}
use Rattle.minidump_format.specs.Handle.{information_type_of, object_information}
use Rattle.minidump_system.specs.Chain.{linked, reads_at}
use Rattle.minidump_records.specs.declared.handles.information.MinidumpHandleObjectInformation.{}
use Rattle.minidump_records.specs.declared.handles.information.MinidumpHandleObjectInformation.{}
use Rattle.minidump_records.specs.declared.handles.information.MinidumpHandleObjectInformation.{MinidumpHandleObjectInformation}

-- a record with its type, which has to be one of 0 to 8
abbrev pub with_type : MINIDUMP_HANDLE_OBJECT_INFORMATION → Option MinidumpHandleObjectInformation
with_type raw =
    option_map (λ t. record { raw = raw; info_type = t }) (information_type_of raw.info_type)

-- the piece of information at an offset of the file; there is none at 0
unfoldable pub information_at : Endian → List ℕ → ℕ → Option MinidumpHandleObjectInformation
information_at order file offset =
    option_and_then with_type (linked object_information order offset file)

-- the offset of the next piece, or 0
abbrev pub next_of : MinidumpHandleObjectInformation → ℕ
next_of i = i.raw.next_info_rva

-- the link at which a chain ends: that of its last piece
abbrev pub last_link : ℕ → List MinidumpHandleObjectInformation → ℕ
last_link link [] = link
last_link link (i ∷ is) = last_link (next_of i) is

-- the reads of the pieces from a link on: one for each, and one at the offset where the chain ends,
-- if that is not 0. An offset that came before is read again
abbrev pub chain_reads : ℕ → List MinidumpHandleObjectInformation → ℕ
chain_reads link infos = length infos + reads_at (last_link link infos)

-- the text of a piece of information: its fields
unfoldable pub information_text : MinidumpHandleObjectInformation → List ℕ
information_text i =
    codes "{next_info_rva: 0x" ++ (digits 16 false i.raw.next_info_rva
    ++ (codes ", info_type: " ++ (digits 10 false i.raw.info_type
    ++ (codes ", size_of_info: " ++ (digits 10 false i.raw.size_of_info ++ codes "}")))))
