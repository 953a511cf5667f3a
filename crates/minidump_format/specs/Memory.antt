-- The descriptors of regions of memory: Microsoft's MINIDUMP_MEMORY_DESCRIPTOR and
-- MINIDUMP_MEMORY_DESCRIPTOR64.
use Rattle.std.specs.Prelude.{slice_range}
use Rattle.minidump_bytes.specs.Layout.{Layout}
use Rattle.minidump_bytes.specs.Number.{number_at}
use Rattle.minidump_format.specs.Header.{location}
use Rattle.minidump_format.specs.declared.format.memory.MINIDUMP_MEMORY_DESCRIPTOR.{MINIDUMP_MEMORY_DESCRIPTOR}
use Rattle.minidump_format.specs.declared.format.memory.MINIDUMP_MEMORY_DESCRIPTOR64.{MINIDUMP_MEMORY_DESCRIPTOR64}

-- Microsoft's MINIDUMP_MEMORY_DESCRIPTOR
abbrev pub memory_descriptor : Layout MINIDUMP_MEMORY_DESCRIPTOR
memory_descriptor = record {
  size = 16;
  value = λ order bytes. record {
    start_of_memory_range = number_at order 8 0 bytes;
    memory = location.value order (slice_range bytes 8 16);
  };
}

-- Microsoft's MINIDUMP_MEMORY_DESCRIPTOR64
abbrev pub memory_descriptor_64 : Layout MINIDUMP_MEMORY_DESCRIPTOR64
memory_descriptor_64 = record {
  size = 16;
  value = λ order bytes. record {
    start_of_memory_range = number_at order 8 0 bytes;
    data_size = number_at order 8 8 bytes;
  };
}
