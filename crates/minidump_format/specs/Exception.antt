-- An exception: Microsoft's MINIDUMP_EXCEPTION and MINIDUMP_EXCEPTION_STREAM of minidumpapiset.h.
use Rattle.std.specs.Prelude.{slice_range}
use Rattle.minidump_bytes.specs.Layout.{Layout, number_layout}
use Rattle.minidump_bytes.specs.Number.{number_at}
use Rattle.minidump_bytes.specs.Entries.{entries}
use Rattle.minidump_format.specs.Header.{location}
use Rattle.minidump_format.specs.declared.format.exception.MINIDUMP_EXCEPTION.{MINIDUMP_EXCEPTION}
use Rattle.minidump_format.specs.declared.format.exception.MINIDUMP_EXCEPTION_STREAM.{MINIDUMP_EXCEPTION_STREAM}

-- Microsoft's MINIDUMP_EXCEPTION
abbrev pub exception : Layout MINIDUMP_EXCEPTION
exception = record {
  size = 152;
  value = λ order bytes. record {
    exception_code = number_at order 4 0 bytes;
    exception_flags = number_at order 4 4 bytes;
    exception_record = number_at order 8 8 bytes;
    exception_address = number_at order 8 16 bytes;
    number_parameters = number_at order 4 24 bytes;
    unused1 = number_at order 4 28 bytes;
    exception_information = entries (number_layout 8) order bytes 32 15;
  };
}

-- Microsoft's MINIDUMP_EXCEPTION_STREAM
abbrev pub exception_layout : Layout MINIDUMP_EXCEPTION_STREAM
exception_layout = record {
  size = 168;
  value = λ order bytes. record {
    thread_id = number_at order 4 0 bytes;
    unused1 = number_at order 4 4 bytes;
    exception_record = exception.value order (slice_range bytes 8 160);
    thread_context = location.value order (slice_range bytes 160 168);
  };
}
