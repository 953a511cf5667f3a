-- An assertion that failed: MDRawAssertionInfo of Breakpad's minidump_format.h.
use Rattle.minidump_bytes.specs.Layout.{Layout, number_layout}
use Rattle.minidump_bytes.specs.Number.{number_at}
use Rattle.minidump_bytes.specs.Entries.{entries}
use Rattle.minidump_format.specs.declared.format.assertion.MINIDUMP_ASSERTION_INFO.{MINIDUMP_ASSERTION_INFO}

-- Breakpad's MDRawAssertionInfo
abbrev pub assertion_info : Layout MINIDUMP_ASSERTION_INFO
assertion_info = record {
  size = 776;
  value = λ order bytes. record {
    expression = entries (number_layout 2) order bytes 0 128;
    function = entries (number_layout 2) order bytes 256 128;
    file = entries (number_layout 2) order bytes 512 128;
    line = number_at order 4 768 bytes;
    _type = number_at order 4 772 bytes;
  };
}
