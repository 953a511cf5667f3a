-- The fields of the descriptor of a handle: Microsoft's MINIDUMP_HANDLE_DESCRIPTOR and
-- MINIDUMP_HANDLE_DESCRIPTOR_2.
use Rattle.std.specs.Prelude.{ℕ, Option, Some, None}
use Rattle.minidump_records.specs.declared.handles.raw.RawHandleDescriptor.{RawHandleDescriptor}
use Rattle.minidump_records.specs.declared.handles.raw.RawHandleDescriptor.TheVariants.{HandleDescriptor}
use Rattle.minidump_records.specs.declared.handles.raw.RawHandleDescriptor.TheVariants.{HandleDescriptor2}

-- Handle: the operating system's value of the handle
abbrev pub handle : RawHandleDescriptor → Option ℕ
handle (HandleDescriptor raw) = Some raw.handle
handle (HandleDescriptor2 raw) = Some raw.handle

-- TypeNameRva: where the name of the object's type is
abbrev pub type_name_rva : RawHandleDescriptor → Option ℕ
type_name_rva (HandleDescriptor raw) = Some raw.type_name_rva
type_name_rva (HandleDescriptor2 raw) = Some raw.type_name_rva

-- ObjectNameRva: where the name of the object is
abbrev pub object_name_rva : RawHandleDescriptor → Option ℕ
object_name_rva (HandleDescriptor raw) = Some raw.object_name_rva
object_name_rva (HandleDescriptor2 raw) = Some raw.object_name_rva

-- Attributes: the attributes of the handle
abbrev pub attributes : RawHandleDescriptor → Option ℕ
attributes (HandleDescriptor raw) = Some raw.attributes
attributes (HandleDescriptor2 raw) = Some raw.attributes

-- GrantedAccess: the access that the handle grants
abbrev pub granted_access : RawHandleDescriptor → Option ℕ
granted_access (HandleDescriptor raw) = Some raw.granted_access
granted_access (HandleDescriptor2 raw) = Some raw.granted_access

-- HandleCount: the number of open handles of the object
abbrev pub handle_count : RawHandleDescriptor → Option ℕ
handle_count (HandleDescriptor raw) = Some raw.handle_count
handle_count (HandleDescriptor2 raw) = Some raw.handle_count

-- PointerCount: the number of the kernel's references to the object
abbrev pub pointer_count : RawHandleDescriptor → Option ℕ
pointer_count (HandleDescriptor raw) = Some raw.pointer_count
pointer_count (HandleDescriptor2 raw) = Some raw.pointer_count

-- ObjectInfoRva: where the first piece of information on the object is. The first layout has no
-- such field
abbrev pub object_info_rva : RawHandleDescriptor → Option ℕ
object_info_rva (HandleDescriptor raw) = None
object_info_rva (HandleDescriptor2 raw) = Some raw.object_info_rva
