-- What Crashpad knows of a process and its modules: MinidumpCrashpadInfo,
-- MinidumpModuleCrashpadInfoLink, MinidumpModuleCrashpadInfo, MinidumpSimpleStringDictionaryEntry
-- and MinidumpAnnotation of Crashpad's minidump_extensions.h.
use Rattle.std.specs.Prelude.{slice_range}
use Rattle.minidump_bytes.specs.Layout.{Layout}
use Rattle.minidump_bytes.specs.Number.{number_at}
use Rattle.minidump_format.specs.Guid.{guid}
use Rattle.minidump_format.specs.Header.{location}
use Rattle.minidump_format.specs.declared.format.crashpad.MINIDUMP_CRASHPAD_INFO.{MINIDUMP_CRASHPAD_INFO}
use Rattle.minidump_format.specs.declared.format.crashpad.MINIDUMP_MODULE_CRASHPAD_INFO_LINK.{
  MINIDUMP_MODULE_CRASHPAD_INFO_LINK,
}
use Rattle.minidump_format.specs.declared.format.crashpad.MINIDUMP_MODULE_CRASHPAD_INFO.{MINIDUMP_MODULE_CRASHPAD_INFO}
use Rattle.minidump_format.specs.declared.format.crashpad.MINIDUMP_SIMPLE_STRING_DICTIONARY_ENTRY.{
  MINIDUMP_SIMPLE_STRING_DICTIONARY_ENTRY,
}
use Rattle.minidump_format.specs.declared.format.crashpad.MINIDUMP_ANNOTATION.{MINIDUMP_ANNOTATION}

-- Crashpad's MinidumpCrashpadInfo
abbrev pub crashpad_info : Layout MINIDUMP_CRASHPAD_INFO
crashpad_info = record {
  size = 52;
  value = λ order bytes. record {
    version = number_at order 4 0 bytes;
    report_id = guid.value order (slice_range bytes 4 20);
    client_id = guid.value order (slice_range bytes 20 36);
    simple_annotations = location.value order (slice_range bytes 36 44);
    module_list = location.value order (slice_range bytes 44 52);
  };
}

-- Crashpad's MinidumpModuleCrashpadInfoLink
abbrev pub module_link : Layout MINIDUMP_MODULE_CRASHPAD_INFO_LINK
module_link = record {
  size = 12;
  value = λ order bytes. record {
    minidump_module_list_index = number_at order 4 0 bytes;
    location = location.value order (slice_range bytes 4 12);
  };
}

-- Crashpad's MinidumpModuleCrashpadInfo
abbrev pub module_crashpad_info : Layout MINIDUMP_MODULE_CRASHPAD_INFO
module_crashpad_info = record {
  size = 28;
  value = λ order bytes. record {
    version = number_at order 4 0 bytes;
    list_annotations = location.value order (slice_range bytes 4 12);
    simple_annotations = location.value order (slice_range bytes 12 20);
    annotation_objects = location.value order (slice_range bytes 20 28);
  };
}

-- Crashpad's MinidumpSimpleStringDictionaryEntry
abbrev pub dictionary_entry : Layout MINIDUMP_SIMPLE_STRING_DICTIONARY_ENTRY
dictionary_entry = record {
  size = 8;
  value = λ order bytes. record {
    key = number_at order 4 0 bytes;
    value = number_at order 4 4 bytes;
  };
}

-- Crashpad's MinidumpAnnotation
abbrev pub annotation : Layout MINIDUMP_ANNOTATION
annotation = record {
  size = 12;
  value = λ order bytes. record {
    name = number_at order 4 0 bytes;
    ty = number_at order 2 4 bytes;
    reserved = number_at order 2 6 bytes;
    value = number_at order 4 8 bytes;
  };
}
