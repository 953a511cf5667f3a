-- The records at the head of a minidump, each a table of its fields: width in bytes, then offset.
-- Microsoft's minidumpapiset.h: MINIDUMP_HEADER, MINIDUMP_LOCATION_DESCRIPTOR, MINIDUMP_DIRECTORY.
use Rattle.std.specs.Prelude.{ℕ, List, Option, ◌+◌, slice_range}
use Rattle.minidump_bytes.specs.Layout.{Layout}
use Rattle.minidump_bytes.specs.Number.{number_at}
use Rattle.minidump_bytes.specs.Span.{span}
use Rattle.minidump_format.specs.declared.format.header.MINIDUMP_HEADER.{MINIDUMP_HEADER}
use Rattle.minidump_format.specs.declared.format.header.MINIDUMP_LOCATION_DESCRIPTOR.{MINIDUMP_LOCATION_DESCRIPTOR}
use Rattle.minidump_format.specs.declared.format.header.MINIDUMP_DIRECTORY.{MINIDUMP_DIRECTORY}

-- Microsoft's MINIDUMP_HEADER
abbrev pub header : Layout MINIDUMP_HEADER
header = record {
  size = 32;
  value = λ order bytes. record {
    signature = number_at order 4 0 bytes;
    version = number_at order 4 4 bytes;
    stream_count = number_at order 4 8 bytes;
    stream_directory_rva = number_at order 4 12 bytes;
    checksum = number_at order 4 16 bytes;
    time_date_stamp = number_at order 4 20 bytes;
    flags = number_at order 8 24 bytes;
  };
}

-- Microsoft's MINIDUMP_LOCATION_DESCRIPTOR
abbrev pub location : Layout MINIDUMP_LOCATION_DESCRIPTOR
location = record {
  size = 8;
  value = λ order bytes. record {
    data_size = number_at order 4 0 bytes;
    rva = number_at order 4 4 bytes;
  };
}

-- the bytes of a file at a location, if the file has all of them
abbrev pub located : List ℕ → MINIDUMP_LOCATION_DESCRIPTOR → Option (List ℕ)
located file descriptor = span descriptor.rva (descriptor.rva + descriptor.data_size) file

-- Microsoft's MINIDUMP_DIRECTORY
abbrev pub directory_entry : Layout MINIDUMP_DIRECTORY
directory_entry = record {
  size = 12;
  value = λ order bytes. record {
    stream_type = number_at order 4 0 bytes;
    location = location.value order (slice_range bytes 4 12);
  };
}
