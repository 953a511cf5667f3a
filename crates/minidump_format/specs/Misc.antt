-- The records of the misc information stream, as tables of width and offset: Microsoft's
-- MINIDUMP_MISC_INFO to MINIDUMP_MISC_INFO_5 and XSTATE_CONFIG_FEATURE_MSC_INFO (minidumpapiset.h),
-- TIME_ZONE_INFORMATION (timezoneapi.h), SYSTEMTIME (minwinbase.h) and XSTATE_FEATURE (winnt.h).
use Rattle.std.specs.Prelude.{slice_range}
use Rattle.minidump_bytes.specs.Entries.{entries}
use Rattle.minidump_bytes.specs.Layout.{Layout, number_layout}
use Rattle.minidump_bytes.specs.Number.{number_at, signed_at}
use Rattle.minidump_format.specs.declared.format.misc.MINIDUMP_MISC_INFO.{MINIDUMP_MISC_INFO}
use Rattle.minidump_format.specs.declared.format.misc.MINIDUMP_MISC_INFO_2.{MINIDUMP_MISC_INFO_2}
use Rattle.minidump_format.specs.declared.format.misc.SYSTEMTIME.{SYSTEMTIME}
use Rattle.minidump_format.specs.declared.format.misc.TIME_ZONE_INFORMATION.{TIME_ZONE_INFORMATION}
use Rattle.minidump_format.specs.declared.format.misc.MINIDUMP_MISC_INFO_3.{MINIDUMP_MISC_INFO_3}
use Rattle.minidump_format.specs.declared.format.misc.MINIDUMP_MISC_INFO_4.{MINIDUMP_MISC_INFO_4}
use Rattle.minidump_format.specs.declared.format.misc.XSTATE_FEATURE.{XSTATE_FEATURE}
use Rattle.minidump_format.specs.declared.format.misc.XSTATE_CONFIG_FEATURE_MSC_INFO.{XSTATE_CONFIG_FEATURE_MSC_INFO}
use Rattle.minidump_format.specs.declared.format.misc.MINIDUMP_MISC_INFO_5.{MINIDUMP_MISC_INFO_5}

-- Microsoft's SYSTEMTIME
abbrev pub system_time : Layout SYSTEMTIME
system_time = record {
  size = 16;
  value = λ order bytes. record {
    year = number_at order 2 0 bytes;
    month = number_at order 2 2 bytes;
    day_of_week = number_at order 2 4 bytes;
    day = number_at order 2 6 bytes;
    hour = number_at order 2 8 bytes;
    minute = number_at order 2 10 bytes;
    second = number_at order 2 12 bytes;
    milliseconds = number_at order 2 14 bytes;
  };
}

-- Microsoft's TIME_ZONE_INFORMATION
abbrev pub time_zone : Layout TIME_ZONE_INFORMATION
time_zone = record {
  size = 172;
  value = λ order bytes. record {
    bias = signed_at order 4 0 bytes;
    standard_name = entries (number_layout 2) order bytes 4 32;
    standard_date = system_time.value order (slice_range bytes 68 84);
    standard_bias = signed_at order 4 84 bytes;
    daylight_name = entries (number_layout 2) order bytes 88 32;
    daylight_date = system_time.value order (slice_range bytes 152 168);
    daylight_bias = signed_at order 4 168 bytes;
  };
}

-- Microsoft's XSTATE_FEATURE
abbrev pub xstate_feature : Layout XSTATE_FEATURE
xstate_feature = record {
  size = 8;
  value = λ order bytes. record {
    offset = number_at order 4 0 bytes;
    size = number_at order 4 4 bytes;
  };
}

-- Microsoft's XSTATE_CONFIG_FEATURE_MSC_INFO
abbrev pub xstate_config : Layout XSTATE_CONFIG_FEATURE_MSC_INFO
xstate_config = record {
  size = 528;
  value = λ order bytes. record {
    size_of_info = number_at order 4 0 bytes;
    context_size = number_at order 4 4 bytes;
    enabled_features = number_at order 8 8 bytes;
    features = entries xstate_feature order bytes 16 64;
  };
}

-- the largest layout of the misc information: Microsoft's MINIDUMP_MISC_INFO_5
abbrev pub misc_info_5 : Layout MINIDUMP_MISC_INFO_5
misc_info_5 = record {
  size = 1364;
  value = λ order bytes. record {
    size_of_info = number_at order 4 0 bytes;
    flags1 = number_at order 4 4 bytes;
    process_id = number_at order 4 8 bytes;
    process_create_time = number_at order 4 12 bytes;
    process_user_time = number_at order 4 16 bytes;
    process_kernel_time = number_at order 4 20 bytes;
    processor_max_mhz = number_at order 4 24 bytes;
    processor_current_mhz = number_at order 4 28 bytes;
    processor_mhz_limit = number_at order 4 32 bytes;
    processor_max_idle_state = number_at order 4 36 bytes;
    processor_current_idle_state = number_at order 4 40 bytes;
    process_integrity_level = number_at order 4 44 bytes;
    process_execute_flags = number_at order 4 48 bytes;
    protected_process = number_at order 4 52 bytes;
    time_zone_id = number_at order 4 56 bytes;
    time_zone = time_zone.value order (slice_range bytes 60 232);
    build_string = entries (number_layout 2) order bytes 232 260;
    dbg_bld_str = entries (number_layout 2) order bytes 752 40;
    xstate_data = xstate_config.value order (slice_range bytes 832 1360);
    process_cookie = number_at order 4 1360 bytes;
  };
}

-- Microsoft's MINIDUMP_MISC_INFO_4: a prefix of MINIDUMP_MISC_INFO_5, with these fields
abbrev pub fields_of_4 : MINIDUMP_MISC_INFO_5 → MINIDUMP_MISC_INFO_4
fields_of_4 raw = record {
  size_of_info = raw.size_of_info;
  flags1 = raw.flags1;
  process_id = raw.process_id;
  process_create_time = raw.process_create_time;
  process_user_time = raw.process_user_time;
  process_kernel_time = raw.process_kernel_time;
  processor_max_mhz = raw.processor_max_mhz;
  processor_current_mhz = raw.processor_current_mhz;
  processor_mhz_limit = raw.processor_mhz_limit;
  processor_max_idle_state = raw.processor_max_idle_state;
  processor_current_idle_state = raw.processor_current_idle_state;
  process_integrity_level = raw.process_integrity_level;
  process_execute_flags = raw.process_execute_flags;
  protected_process = raw.protected_process;
  time_zone_id = raw.time_zone_id;
  time_zone = raw.time_zone;
  build_string = raw.build_string;
  dbg_bld_str = raw.dbg_bld_str;
}

-- Microsoft's MINIDUMP_MISC_INFO_4
abbrev pub misc_info_4 : Layout MINIDUMP_MISC_INFO_4
misc_info_4 = record {
  size = 832;
  value = λ order bytes. fields_of_4 (misc_info_5.value order bytes);
}

-- Microsoft's MINIDUMP_MISC_INFO_3: a prefix of MINIDUMP_MISC_INFO_4, with these fields
abbrev pub fields_of_3 : MINIDUMP_MISC_INFO_4 → MINIDUMP_MISC_INFO_3
fields_of_3 raw = record {
  size_of_info = raw.size_of_info;
  flags1 = raw.flags1;
  process_id = raw.process_id;
  process_create_time = raw.process_create_time;
  process_user_time = raw.process_user_time;
  process_kernel_time = raw.process_kernel_time;
  processor_max_mhz = raw.processor_max_mhz;
  processor_current_mhz = raw.processor_current_mhz;
  processor_mhz_limit = raw.processor_mhz_limit;
  processor_max_idle_state = raw.processor_max_idle_state;
  processor_current_idle_state = raw.processor_current_idle_state;
  process_integrity_level = raw.process_integrity_level;
  process_execute_flags = raw.process_execute_flags;
  protected_process = raw.protected_process;
  time_zone_id = raw.time_zone_id;
  time_zone = raw.time_zone;
}

-- Microsoft's MINIDUMP_MISC_INFO_3
abbrev pub misc_info_3 : Layout MINIDUMP_MISC_INFO_3
misc_info_3 = record {
  size = 232;
  value = λ order bytes. fields_of_3 (misc_info_4.value order bytes);
}

-- Microsoft's MINIDUMP_MISC_INFO_2: a prefix of MINIDUMP_MISC_INFO_3, with these fields
abbrev pub fields_of_2 : MINIDUMP_MISC_INFO_3 → MINIDUMP_MISC_INFO_2
fields_of_2 raw = record {
  size_of_info = raw.size_of_info;
  flags1 = raw.flags1;
  process_id = raw.process_id;
  process_create_time = raw.process_create_time;
  process_user_time = raw.process_user_time;
  process_kernel_time = raw.process_kernel_time;
  processor_max_mhz = raw.processor_max_mhz;
  processor_current_mhz = raw.processor_current_mhz;
  processor_mhz_limit = raw.processor_mhz_limit;
  processor_max_idle_state = raw.processor_max_idle_state;
  processor_current_idle_state = raw.processor_current_idle_state;
}

-- Microsoft's MINIDUMP_MISC_INFO_2
abbrev pub misc_info_2 : Layout MINIDUMP_MISC_INFO_2
misc_info_2 = record {
  size = 44;
  value = λ order bytes. fields_of_2 (misc_info_3.value order bytes);
}

-- Microsoft's MINIDUMP_MISC_INFO: a prefix of MINIDUMP_MISC_INFO_2, with these fields
abbrev pub fields_of_1 : MINIDUMP_MISC_INFO_2 → MINIDUMP_MISC_INFO
fields_of_1 raw = record {
  size_of_info = raw.size_of_info;
  flags1 = raw.flags1;
  process_id = raw.process_id;
  process_create_time = raw.process_create_time;
  process_user_time = raw.process_user_time;
  process_kernel_time = raw.process_kernel_time;
}

-- Microsoft's MINIDUMP_MISC_INFO
abbrev pub misc_info : Layout MINIDUMP_MISC_INFO
misc_info = record { size = 24; value = λ order bytes. fields_of_1 (misc_info_2.value order bytes) }
