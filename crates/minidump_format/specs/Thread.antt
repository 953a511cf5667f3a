-- Threads: Microsoft's MINIDUMP_THREAD, MINIDUMP_THREAD_NAME and MINIDUMP_THREAD_INFO of
-- minidumpapiset.h.
use Rattle.std.specs.Prelude.{slice_range}
use Rattle.minidump_bytes.specs.Layout.{Layout}
use Rattle.minidump_bytes.specs.Number.{number_at}
use Rattle.minidump_format.specs.Header.{location}
use Rattle.minidump_format.specs.Memory.{memory_descriptor}
use Rattle.minidump_format.specs.declared.format.thread.MINIDUMP_THREAD.{MINIDUMP_THREAD}
use Rattle.minidump_format.specs.declared.format.thread.MINIDUMP_THREAD_NAME.{MINIDUMP_THREAD_NAME}
use Rattle.minidump_format.specs.declared.format.thread.MINIDUMP_THREAD_INFO.{MINIDUMP_THREAD_INFO}

-- Microsoft's MINIDUMP_THREAD
abbrev pub thread : Layout MINIDUMP_THREAD
thread = record {
  size = 48;
  value = λ order bytes. record {
    thread_id = number_at order 4 0 bytes;
    suspend_count = number_at order 4 4 bytes;
    priority_class = number_at order 4 8 bytes;
    priority = number_at order 4 12 bytes;
    teb = number_at order 8 16 bytes;
    stack = memory_descriptor.value order (slice_range bytes 24 40);
    thread_context = location.value order (slice_range bytes 40 48);
  };
}

-- Microsoft's MINIDUMP_THREAD_NAME
abbrev pub thread_name : Layout MINIDUMP_THREAD_NAME
thread_name = record {
  size = 12;
  value = λ order bytes. record {
    thread_id = number_at order 4 0 bytes;
    thread_name_rva = number_at order 8 4 bytes;
  };
}

-- Microsoft's MINIDUMP_THREAD_INFO
abbrev pub thread_info : Layout MINIDUMP_THREAD_INFO
thread_info = record {
  size = 64;
  value = λ order bytes. record {
    thread_id = number_at order 4 0 bytes;
    dump_flags = number_at order 4 4 bytes;
    dump_error = number_at order 4 8 bytes;
    exit_status = number_at order 4 12 bytes;
    create_time = number_at order 8 16 bytes;
    exit_time = number_at order 8 24 bytes;
    kernel_time = number_at order 8 32 bytes;
    user_time = number_at order 8 40 bytes;
    start_address = number_at order 8 48 bytes;
    affinity = number_at order 8 56 bytes;
  };
}
