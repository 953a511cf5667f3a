-- Modules, loaded and unloaded: Microsoft's MINIDUMP_MODULE and MINIDUMP_UNLOADED_MODULE of
-- minidumpapiset.h, and VS_FIXEDFILEINFO of verrsrc.h.
use Rattle.std.specs.Prelude.{slice_range}
use Rattle.minidump_bytes.specs.Layout.{Layout, byte_layout}
use Rattle.minidump_bytes.specs.Number.{number_at}
use Rattle.minidump_bytes.specs.Entries.{entries}
use Rattle.minidump_format.specs.Header.{location}
use Rattle.minidump_format.specs.declared.format.module.VS_FIXEDFILEINFO.{VS_FIXEDFILEINFO}
use Rattle.minidump_format.specs.declared.format.module.MINIDUMP_MODULE.{MINIDUMP_MODULE}
use Rattle.minidump_format.specs.declared.format.module.MINIDUMP_UNLOADED_MODULE.{MINIDUMP_UNLOADED_MODULE}

-- Microsoft's VS_FIXEDFILEINFO
abbrev pub fixed_file_info : Layout VS_FIXEDFILEINFO
fixed_file_info = record {
  size = 52;
  value = λ order bytes. record {
    signature = number_at order 4 0 bytes;
    struct_version = number_at order 4 4 bytes;
    file_version_hi = number_at order 4 8 bytes;
    file_version_lo = number_at order 4 12 bytes;
    product_version_hi = number_at order 4 16 bytes;
    product_version_lo = number_at order 4 20 bytes;
    file_flags_mask = number_at order 4 24 bytes;
    file_flags = number_at order 4 28 bytes;
    file_os = number_at order 4 32 bytes;
    file_type = number_at order 4 36 bytes;
    file_subtype = number_at order 4 40 bytes;
    file_date_hi = number_at order 4 44 bytes;
    file_date_lo = number_at order 4 48 bytes;
  };
}

-- Microsoft's MINIDUMP_MODULE
abbrev pub module_entry : Layout MINIDUMP_MODULE
module_entry = record {
  size = 108;
  value = λ order bytes. record {
    base_of_image = number_at order 8 0 bytes;
    size_of_image = number_at order 4 8 bytes;
    checksum = number_at order 4 12 bytes;
    time_date_stamp = number_at order 4 16 bytes;
    module_name_rva = number_at order 4 20 bytes;
    version_info = fixed_file_info.value order (slice_range bytes 24 76);
    cv_record = location.value order (slice_range bytes 76 84);
    misc_record = location.value order (slice_range bytes 84 92);
    unused1 = entries byte_layout order bytes 92 16;
  };
}

-- Microsoft's MINIDUMP_UNLOADED_MODULE
abbrev pub unloaded_module_entry : Layout MINIDUMP_UNLOADED_MODULE
unloaded_module_entry = record {
  size = 24;
  value = λ order bytes. record {
    base_of_image = number_at order 8 0 bytes;
    size_of_image = number_at order 4 8 bytes;
    checksum = number_at order 4 12 bytes;
    time_date_stamp = number_at order 4 16 bytes;
    module_name_rva = number_at order 4 20 bytes;
  };
}
