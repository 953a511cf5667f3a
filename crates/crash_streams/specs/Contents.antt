-- The contents of a minidump: the value of each stream, or the error for which there is none.
use Rattle.std.specs.Prelude.{ℕ, ◌||◌, Bool, false, not, List, [], length, map, Option, Result, Ok, Err, unwrap_or}
use Rattle.std.specs.Option.{option_map, option_map_or}
use Rattle.std.specs.Result.{result_err, result_ok}
use Rattle.minidump.specs.declared.Error.{Error}
use Rattle.minidump.specs.declared.MinidumpBreakpadInfo.{MinidumpBreakpadInfo}
use Rattle.minidump.specs.declared.RawMiscInfo.{RawMiscInfo}
use Rattle.minidump.specs.declared.format.MINIDUMP_ASSERTION_INFO.{MINIDUMP_ASSERTION_INFO}
use Rattle.minidump.specs.declared.format.MINIDUMP_MEMORY_DESCRIPTOR64.{MINIDUMP_MEMORY_DESCRIPTOR64}
use Rattle.minidump.specs.declared.format.MINIDUMP_THREAD_INFO.{MINIDUMP_THREAD_INFO}
use Rattle.minidump.specs.Below.Contexts.Context.{map_ok}
use Rattle.minidump.specs.Below.MemoryLists.MapLine.{MapRegion}
use Rattle.minidump.specs.Below.MemoryLists.Memory.{MemoryRegion}
use Rattle.minidump.specs.Below.MemoryLists.MemoryInfo.{MemoryInfo}
use Rattle.minidump.specs.Below.MemoryLists.MemoryList.{PlainMemory}
use Rattle.minidump.specs.Below.MemoryLists.Unified.{Memory, UnifiedRegions, unified_list}
use Rattle.minidump.specs.Below.MemoryLists.UnifiedInfo.{InfoRegions, OfInfo, OfMaps, info_list}
use Rattle.minidump.specs.Below.Modules.Module.{ModuleValue}
use Rattle.minidump.specs.Below.Modules.ModuleList.{ListedModules, module_list_of}
use Rattle.minidump.specs.Below.Modules.UnloadedModule.{UnloadedValue}
use Rattle.minidump.specs.Below.Records.BootArgs.{BootArgs}
use Rattle.minidump.specs.Below.Records.Crashpad.{Crashpad}
use Rattle.minidump.specs.Below.Records.Handles.{Handle}
use Rattle.minidump.specs.Below.Records.MacCrashInfo.{MacRecords}
use Rattle.minidump.specs.Below.Records.ThreadNames.{ThreadNames}
use Rattle.minidump.specs.Below.Stability.StabilityReport.{Report}
use Rattle.minidump.specs.Below.System.System.{System}
use Rattle.minidump.specs.Dump.{Dump, stream_of}
use Rattle.minidump.specs.Exception.{Exception}
use Rattle.minidump.specs.Exceptions.{exceptions_in}
use Rattle.minidump.specs.Memory.{first_found}
use Rattle.minidump.specs.Thread.{Thread}
use Rattle.minidump.specs.Promise.{system_info_stream, misc_info_stream, breakpad_info_stream, linux_cpu_info_stream}
use Rattle.minidump.specs.Promise.{linux_lsb_release_stream, exception_stream, thread_list_stream}
use Rattle.minidump.specs.Promise.{thread_names_stream, thread_info_list_stream, module_list_stream}
use Rattle.minidump.specs.Promise.{unloaded_module_list_stream, memory64_list_stream, memory_list_stream}
use Rattle.minidump.specs.Promise.{memory_info_list_stream, linux_maps_stream, assertion_stream, crashpad_info_stream}
use Rattle.minidump.specs.Promise.{mac_crash_info_stream, mac_bootargs_stream, soft_errors_stream}
use Rattle.minidump.specs.Promise.{stability_report_stream, handle_data_stream, linux_proc_status_stream}
use Rattle.minidump.specs.Promise.{linux_environ_stream, linux_proc_limits_stream}
use Rattle.crash_streams.specs.declared.contents.SystemStreams.{SystemStreams}
use Rattle.crash_streams.specs.declared.contents.ThreadStreams.{ThreadStreams}
use Rattle.crash_streams.specs.declared.contents.SpaceStreams.{SpaceStreams}
use Rattle.crash_streams.specs.declared.contents.MessageStreams.{MessageStreams}
use Rattle.crash_streams.specs.declared.contents.ProcessStreams.{ProcessStreams}
use Rattle.crash_streams.specs.declared.contents.Contents.{Contents}
use Rattle.crash_streams.specs.Missing.{is_missing}

-- the streams of the system: each its value, or the error for which there is none
pub record SystemStreamValues : Type 0 where
  pub system : Result System Error
  pub misc : Result RawMiscInfo Error
  pub breakpad : Result MinidumpBreakpadInfo Error
  pub cpu_info : Result (List ℕ) Error
  pub lsb_release : Result (List ℕ) Error

-- those of a `SystemStreams`
abbrev pub system_streams_of : SystemStreams → SystemStreamValues
system_streams_of s = record {
  system = map_ok system_info_stream.value s.system;
  misc = map_ok misc_info_stream.value s.misc;
  breakpad = map_ok breakpad_info_stream.value s.breakpad;
  cpu_info = map_ok linux_cpu_info_stream.value s.cpu_info;
  lsb_release = map_ok linux_lsb_release_stream.value s.lsb_release;
}

-- the streams of the crash and its threads: each its value, or the error for which there is none,
-- and the exceptions of all entries of the directory
pub record ThreadStreamValues : Type 0 where
  pub exceptions : List (Result Exception Error)
  pub threads : Result (List Thread) Error
  pub names : Result ThreadNames Error
  pub infos : Result (List MINIDUMP_THREAD_INFO) Error

-- those of a `ThreadStreams`
abbrev pub thread_streams_of : ThreadStreams → ThreadStreamValues
thread_streams_of s = record {
  exceptions = map (map_ok exception_stream.value) s.exceptions.items;
  threads = map_ok thread_list_stream.value s.threads;
  names = map_ok thread_names_stream.value s.names;
  infos = map_ok thread_info_list_stream.value s.infos;
}

-- the modules, and how many entries have no addresses: none where their list can't be read
abbrev pub listed_or_none : Result ListedModules Error → ListedModules
listed_or_none found = unwrap_or (result_ok found) (record { modules = []; without_addresses = 0 })

-- the memory: the 64-bit list, else the plain one, and none where neither can be read
abbrev pub first_memory : Result (List (MemoryRegion MINIDUMP_MEMORY_DESCRIPTOR64)) Error
    → Result PlainMemory Error → UnifiedRegions
first_memory long plain = unwrap_or (first_found long plain) (Memory [])

-- what is known of the regions: the memory information, else the maps, and nothing where neither
-- can be read
abbrev pub first_infos : Result (List MemoryInfo) Error → Result (List MapRegion) Error
    → InfoRegions
first_infos (Ok infos) maps = OfInfo infos
first_infos (Err _) (Ok maps) = OfMaps maps
first_infos (Err _) (Err _) = OfInfo []

-- the streams of the address space: the modules, and how many entries of their list have no
-- addresses, the memory and what is known of its regions, by the first stream that can be read, the
-- errors of both, how many regions of the plain list of memory are outside the file, and how many lines
-- the maps have
pub record SpaceStreamValues : Type 0 where
  pub modules : List ModuleValue
  pub without_addresses : ℕ
  pub modules_error : Option Error
  pub unloaded : Result (List UnloadedValue) Error
  pub memory : UnifiedRegions
  pub memory_errors : Option Error × Option Error
  pub regions_outside : ℕ
  pub infos : InfoRegions
  pub infos_errors : Option Error × Option Error
  pub map_count : Option ℕ

-- those of a `SpaceStreams`
abbrev pub space_streams_of : SpaceStreams → SpaceStreamValues
space_streams_of s = record {
  modules = module_list_of s.modules;
  without_addresses = (module_list_stream.value s.modules).without_addresses;
  modules_error = s.modules_error;
  unloaded = map_ok unloaded_module_list_stream.value s.unloaded;
  memory = unified_list s.memory;
  memory_errors = s.memory_errors;
  regions_outside = s.regions_outside;
  infos = info_list s.infos;
  infos_errors = s.infos_errors;
  map_count = s.map_count;
}

-- the streams of what the process itself said: each its value, or the error for which there is none
pub record MessageStreamValues : Type 0 where
  pub assertion : Result MINIDUMP_ASSERTION_INFO Error
  pub crashpad : Result Crashpad Error
  pub mac_crash_info : Result MacRecords Error
  pub mac_boot_args : Result BootArgs Error
  pub soft_errors : Result (List ℕ) Error
  pub stability : Result Report Error

-- those of a `MessageStreams`
abbrev pub message_streams_of : MessageStreams → MessageStreamValues
message_streams_of s = record {
  assertion = map_ok assertion_stream.value s.assertion;
  crashpad = map_ok crashpad_info_stream.value s.crashpad;
  mac_crash_info = map_ok mac_crash_info_stream.value s.mac_crash_info;
  mac_boot_args = map_ok mac_bootargs_stream.value s.mac_boot_args;
  soft_errors = map_ok soft_errors_stream.value s.soft_errors;
  stability = map_ok stability_report_stream.value s.stability;
}

-- the streams of the process: each its value, or the error for which there is none
pub record ProcessStreamValues : Type 0 where
  pub handles : Result (List Handle) Error
  pub status : Result (List ℕ) Error
  pub environ : Result (List ℕ) Error
  pub limits : Result (List ℕ) Error

-- those of a `ProcessStreams`
abbrev pub process_streams_of : ProcessStreams → ProcessStreamValues
process_streams_of s = record {
  handles = map_ok handle_data_stream.value s.handles;
  status = map_ok linux_proc_status_stream.value s.status;
  environ = map_ok linux_environ_stream.value s.environ;
  limits = map_ok linux_proc_limits_stream.value s.limits;
}

-- all of them
pub record ContentsValue : Type 0 where
  pub system : SystemStreamValues
  pub threads : ThreadStreamValues
  pub space : SpaceStreamValues
  pub messages : MessageStreamValues
  pub process : ProcessStreamValues

-- those of a dump
abbrev pub contents_in : Dump → ContentsValue
contents_in d = record {
  system = record {
    system = stream_of system_info_stream d;
    misc = stream_of misc_info_stream d;
    breakpad = stream_of breakpad_info_stream d;
    cpu_info = stream_of linux_cpu_info_stream d;
    lsb_release = stream_of linux_lsb_release_stream d;
  };
  threads = record {
    exceptions = exceptions_in d;
    threads = stream_of thread_list_stream d;
    names = stream_of thread_names_stream d;
    infos = stream_of thread_info_list_stream d;
  };
  space = record {
    modules = (listed_or_none (stream_of module_list_stream d)).modules;
    without_addresses = (listed_or_none (stream_of module_list_stream d)).without_addresses;
    modules_error = result_err (stream_of module_list_stream d);
    unloaded = stream_of unloaded_module_list_stream d;
    memory = first_memory (stream_of memory64_list_stream d) (stream_of memory_list_stream d);
    memory_errors = (
      result_err (stream_of memory64_list_stream d),
      result_err (stream_of memory_list_stream d),
    );
    regions_outside =
        option_map_or (λ list. list.outside) (result_ok (stream_of memory_list_stream d)) 0;
    infos = first_infos (stream_of memory_info_list_stream d) (stream_of linux_maps_stream d);
    infos_errors = (
      result_err (stream_of memory_info_list_stream d),
      result_err (stream_of linux_maps_stream d),
    );
    map_count = option_map length (result_ok (stream_of linux_maps_stream d));
  };
  messages = record {
    assertion = stream_of assertion_stream d;
    crashpad = stream_of crashpad_info_stream d;
    mac_crash_info = stream_of mac_crash_info_stream d;
    mac_boot_args = stream_of mac_bootargs_stream d;
    soft_errors = stream_of soft_errors_stream d;
    stability = stream_of stability_report_stream d;
  };
  process = record {
    handles = stream_of handle_data_stream d;
    status = stream_of linux_proc_status_stream d;
    environ = stream_of linux_environ_stream d;
    limits = stream_of linux_proc_limits_stream d;
  };
}

-- those of a `Contents`
abbrev pub contents_of : Contents → ContentsValue
contents_of c = record {
  system = system_streams_of c.system;
  threads = thread_streams_of c.threads;
  space = space_streams_of c.space;
  messages = message_streams_of c.messages;
  process = process_streams_of c.process;
}

-- ---- what the streams say of their writer

-- a stream is in the dump, whether it can be read or not
abbrev pub is_there : {A : Type 0} → Result A Error → Bool
is_there stream = not (option_map_or is_missing (result_err stream) false)

-- the writer of a dump is known to have the `si_code` of each signal of Linux: it is Crashpad, or that of Mozilla,
-- by the streams that they alone write
abbrev pub has_signal_codes : ContentsValue → Bool
has_signal_codes c = is_there c.messages.crashpad
    || (is_there c.messages.soft_errors || is_there c.process.limits)
