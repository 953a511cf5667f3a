-- The promise of this library, and the index of its tables. A file is a minidump, or has an error,
-- by `dump_in` of Dump.antt; a stream is a value, or has an error, by `stream_of` there and by the
-- table of its type: a `StreamSpec`, at the end of the file that its line here names. Reading a
-- file of n bytes takes n + 8 reads at most, and `least_reads` at least where it succeeds; a stream
-- takes one for its span and n + 7 more at most, or (n + 8)² - 1 more where it is handles or
-- Crashpad's information. A list of regions answers by `HasRegionLaws` of minidump_index.
pub use Rattle.minidump_system.specs.SystemInfo.{system_info_stream}
pub use Rattle.minidump_system.specs.MiscInfo.{misc_info_stream}
pub use Rattle.minidump_memory.specs.MemoryList.{memory_list_stream}
pub use Rattle.minidump_memory.specs.Memory64List.{memory64_list_stream}
pub use Rattle.minidump_memory.specs.MemoryInfo.{memory_info_list_stream}
pub use Rattle.minidump_memory.specs.LinuxMaps.{linux_maps_stream}
pub use Rattle.minidump_modules.specs.ModuleList.{module_list_stream}
pub use Rattle.minidump_modules.specs.UnloadedModuleList.{unloaded_module_list_stream}
pub use Rattle.minidump.specs.Thread.{thread_list_stream}
pub use Rattle.minidump.specs.Exception.{exception_stream}
pub use Rattle.minidump_records.specs.ThreadNames.{thread_names_stream}
pub use Rattle.minidump_records.specs.ThreadInfo.{thread_info_list_stream}
pub use Rattle.minidump_records.specs.Handles.{handle_data_stream}
pub use Rattle.minidump_records.specs.Crashpad.{crashpad_info_stream}
pub use Rattle.minidump_records.specs.BreakpadInfo.{breakpad_info_stream}
pub use Rattle.minidump_records.specs.Assertion.{assertion_stream}
pub use Rattle.minidump_records.specs.MacCrashInfo.{mac_crash_info_stream}
pub use Rattle.minidump_records.specs.BootArgs.{mac_bootargs_stream}
pub use Rattle.minidump_records.specs.SoftErrors.{soft_errors_stream}
pub use Rattle.minidump_records.specs.Linux.{linux_cpu_info_stream}
pub use Rattle.minidump_records.specs.Linux.{linux_proc_status_stream}
pub use Rattle.minidump_records.specs.Linux.{linux_lsb_release_stream}
pub use Rattle.minidump_records.specs.Linux.{linux_environ_stream}
pub use Rattle.minidump_records.specs.Linux.{linux_proc_limits_stream}
pub use Rattle.minidump_stability.specs.StabilityReport.{stability_report_stream}
