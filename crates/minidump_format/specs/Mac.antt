-- The crash information of macOS: MDRawMacCrashInfo, MDRawMacCrashInfoRecord and MDRawMacBootargs,
-- Mozilla's extensions of Breakpad's minidump_format.h.
use Rattle.minidump_bytes.specs.Layout.{Layout}
use Rattle.minidump_bytes.specs.Number.{number_at}
use Rattle.minidump_bytes.specs.Entries.{entries}
use Rattle.minidump_format.specs.Header.{location}
use Rattle.minidump_format.specs.declared.format.mac.MINIDUMP_MAC_CRASH_INFO.{MINIDUMP_MAC_CRASH_INFO}
use Rattle.minidump_format.specs.declared.format.mac.MINIDUMP_MAC_CRASH_INFO_RECORD.{MINIDUMP_MAC_CRASH_INFO_RECORD}
use Rattle.minidump_format.specs.declared.format.mac.MINIDUMP_MAC_CRASH_INFO_RECORD_4.{MINIDUMP_MAC_CRASH_INFO_RECORD_4}
use Rattle.minidump_format.specs.declared.format.mac.MINIDUMP_MAC_CRASH_INFO_RECORD_5.{MINIDUMP_MAC_CRASH_INFO_RECORD_5}
use Rattle.minidump_format.specs.declared.format.mac.MINIDUMP_MAC_BOOTARGS.{MINIDUMP_MAC_BOOTARGS}

-- Mozilla's MDRawMacCrashInfo
abbrev pub mac_crash_info : Layout MINIDUMP_MAC_CRASH_INFO
mac_crash_info = record {
  size = 172;
  value = λ order bytes. record {
    stream_type = number_at order 4 0 bytes;
    record_count = number_at order 4 4 bytes;
    record_start_size = number_at order 4 8 bytes;
    records = entries location order bytes 12 20;
  };
}

-- the fields of Mozilla's MDRawMacCrashInfoRecord that every version has
abbrev pub mac_record : Layout MINIDUMP_MAC_CRASH_INFO_RECORD
mac_record = record {
  size = 16;
  value = λ order bytes. record {
    stream_type = number_at order 8 0 bytes;
    version = number_at order 8 8 bytes;
  };
}

-- those from version 4 on
abbrev pub mac_record_4 : Layout MINIDUMP_MAC_CRASH_INFO_RECORD_4
mac_record_4 = record {
  size = 32;
  value = λ order bytes. record {
    stream_type = number_at order 8 0 bytes;
    version = number_at order 8 8 bytes;
    thread = number_at order 8 16 bytes;
    dialog_mode = number_at order 8 24 bytes;
  };
}

-- those from version 5 on
abbrev pub mac_record_5 : Layout MINIDUMP_MAC_CRASH_INFO_RECORD_5
mac_record_5 = record {
  size = 40;
  value = λ order bytes. record {
    stream_type = number_at order 8 0 bytes;
    version = number_at order 8 8 bytes;
    thread = number_at order 8 16 bytes;
    dialog_mode = number_at order 8 24 bytes;
    abort_cause = number_at order 8 32 bytes;
  };
}

-- Mozilla's MDRawMacBootargs
abbrev pub mac_boot_args : Layout MINIDUMP_MAC_BOOTARGS
mac_boot_args = record {
  size = 12;
  value = λ order bytes. record {
    stream_type = number_at order 4 0 bytes;
    bootargs = number_at order 8 4 bytes;
  };
}
