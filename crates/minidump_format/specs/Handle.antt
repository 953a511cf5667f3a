-- Open handles: Microsoft's MINIDUMP_HANDLE_DESCRIPTOR, MINIDUMP_HANDLE_DESCRIPTOR_2 and
-- MINIDUMP_HANDLE_OBJECT_INFORMATION of minidumpapiset.h, and the numbers of what is known of an
-- object.
use Rattle.std.specs.Prelude.{ℕ, [], ◌∷◌, find, ◌==◌, Option}
use Rattle.minidump_bytes.specs.Layout.{Layout}
use Rattle.minidump_bytes.specs.Number.{number_at}
use Rattle.minidump_format.specs.declared.format.handle.MINIDUMP_HANDLE_DESCRIPTOR.{MINIDUMP_HANDLE_DESCRIPTOR}
use Rattle.minidump_format.specs.declared.format.handle.MINIDUMP_HANDLE_DESCRIPTOR_2.{MINIDUMP_HANDLE_DESCRIPTOR_2}
use Rattle.minidump_format.specs.declared.format.handle.MINIDUMP_HANDLE_OBJECT_INFORMATION.{
  MINIDUMP_HANDLE_OBJECT_INFORMATION,
}
use Rattle.minidump_format.specs.declared.format.handle.MINIDUMP_HANDLE_OBJECT_INFORMATION_TYPE.{
  MINIDUMP_HANDLE_OBJECT_INFORMATION_TYPE,
}
use Rattle.minidump_format.specs.declared.format.handle.MINIDUMP_HANDLE_OBJECT_INFORMATION_TYPE.TheVariants.{
  MiniHandleObjectInformationNone,
  MiniThreadInformation1,
  MiniMutantInformation1,
  MiniMutantInformation2,
  MiniProcessInformation1,
  MiniProcessInformation2,
  MiniEventInformation1,
  MiniSectionInformation1,
  MiniSemaphoreInformation1,
}

-- Microsoft's MINIDUMP_HANDLE_DESCRIPTOR
abbrev pub handle_descriptor : Layout MINIDUMP_HANDLE_DESCRIPTOR
handle_descriptor = record {
  size = 32;
  value = λ order bytes. record {
    handle = number_at order 8 0 bytes;
    type_name_rva = number_at order 4 8 bytes;
    object_name_rva = number_at order 4 12 bytes;
    attributes = number_at order 4 16 bytes;
    granted_access = number_at order 4 20 bytes;
    handle_count = number_at order 4 24 bytes;
    pointer_count = number_at order 4 28 bytes;
  };
}

-- Microsoft's MINIDUMP_HANDLE_DESCRIPTOR_2
abbrev pub handle_descriptor_2 : Layout MINIDUMP_HANDLE_DESCRIPTOR_2
handle_descriptor_2 = record {
  size = 40;
  value = λ order bytes. record {
    handle = number_at order 8 0 bytes;
    type_name_rva = number_at order 4 8 bytes;
    object_name_rva = number_at order 4 12 bytes;
    attributes = number_at order 4 16 bytes;
    granted_access = number_at order 4 20 bytes;
    handle_count = number_at order 4 24 bytes;
    pointer_count = number_at order 4 28 bytes;
    object_info_rva = number_at order 4 32 bytes;
    reserved = number_at order 4 36 bytes;
  };
}

-- Microsoft's MINIDUMP_HANDLE_OBJECT_INFORMATION
abbrev pub object_information : Layout MINIDUMP_HANDLE_OBJECT_INFORMATION
object_information = record {
  size = 12;
  value = λ order bytes. record {
    next_info_rva = number_at order 4 0 bytes;
    info_type = number_at order 4 4 bytes;
    size_of_info = number_at order 4 8 bytes;
  };
}

-- the number of each type of information
abbrev pub information_type_number : MINIDUMP_HANDLE_OBJECT_INFORMATION_TYPE → ℕ
information_type_number MiniHandleObjectInformationNone = 0
information_type_number MiniThreadInformation1 = 1
information_type_number MiniMutantInformation1 = 2
information_type_number MiniMutantInformation2 = 3
information_type_number MiniProcessInformation1 = 4
information_type_number MiniProcessInformation2 = 5
information_type_number MiniEventInformation1 = 6
information_type_number MiniSectionInformation1 = 7
information_type_number MiniSemaphoreInformation1 = 8

-- the type that has a number, which is no other's
abbrev pub information_type_of : ℕ → Option MINIDUMP_HANDLE_OBJECT_INFORMATION_TYPE
information_type_of n = find (λ t. information_type_number t == n)
    (MiniHandleObjectInformationNone ∷ MiniThreadInformation1 ∷ MiniMutantInformation1
    ∷ MiniMutantInformation2 ∷ MiniProcessInformation1 ∷ MiniProcessInformation2
    ∷ MiniEventInformation1 ∷ MiniSectionInformation1
    ∷ MiniSemaphoreInformation1 ∷ [])
