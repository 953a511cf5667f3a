-- Which threads wrote a dump and asked for it: MDRawBreakpadInfo of Breakpad's minidump_format.h.
use Rattle.std.specs.Prelude.{ℕ, List, [], ◌∷◌, codes}
use Rattle.minidump_bytes.specs.Layout.{Layout}
use Rattle.minidump_bytes.specs.Number.{number_at}
use Rattle.minidump_format.specs.declared.format.breakpad.MINIDUMP_BREAKPAD_INFO.{MINIDUMP_BREAKPAD_INFO}

-- Breakpad's MDRawBreakpadInfo
abbrev pub breakpad_info : Layout MINIDUMP_BREAKPAD_INFO
breakpad_info = record {
  size = 12;
  value = λ order bytes. record {
    validity = number_at order 4 0 bytes;
    dump_thread_id = number_at order 4 4 bytes;
    requesting_thread_id = number_at order 4 8 bytes;
  };
}

-- MD_BREAKPAD_INFO_VALID_DUMP_THREAD_ID and MD_BREAKPAD_INFO_VALID_REQUESTING_THREAD_ID
unfoldable pub breakpad_info_valid : List (List ℕ × ℕ)
breakpad_info_valid =
    (codes "DumpThreadId", 0x1) ∷
    (codes "RequestingThreadId", 0x2) ∷
    []
