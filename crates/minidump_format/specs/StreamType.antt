-- The types of stream: MINIDUMP_STREAM_TYPE of Microsoft's minidumpapiset.h, MDStreamType of
-- Breakpad's minidump_format.h, and the extensions of Crashpad (minidump_extensions.h), Chromium
-- (StabilityReportStream) and Mozilla.
use Rattle.std.specs.Prelude.{ℕ, Bool, true, false, List, [], ◌∷◌, codes, find, ◌==◌, Option}
use Rattle.minidump_format.specs.declared.format.stream_type.MINIDUMP_STREAM_TYPE.{MINIDUMP_STREAM_TYPE}
use Rattle.minidump_format.specs.declared.format.stream_type.MINIDUMP_STREAM_TYPE.TheVariants.{
  UnusedStream,
  ReservedStream0,
  ReservedStream1,
  ThreadListStream,
  ModuleListStream,
  MemoryListStream,
  ExceptionStream,
  SystemInfoStream,
  ThreadExListStream,
  Memory64ListStream,
  CommentStreamA,
  CommentStreamW,
  HandleDataStream,
  FunctionTable,
  UnloadedModuleListStream,
  MiscInfoStream,
  MemoryInfoListStream,
  ThreadInfoListStream,
  HandleOperationListStream,
  TokenStream,
  JavaScriptDataStream,
  SystemMemoryInfoStream,
  ProcessVmCountersStream,
  IptTraceStream,
  ThreadNamesStream,
  ceStreamNull,
  ceStreamSystemInfo,
  ceStreamException,
  ceStreamModuleList,
  ceStreamProcessList,
  ceStreamThreadList,
  ceStreamThreadContextList,
  ceStreamThreadCallStackList,
  ceStreamMemoryVirtualList,
  ceStreamMemoryPhysicalList,
  ceStreamBucketParameters,
  ceStreamProcessModuleMap,
  ceStreamDiagnosisList,
  LastReservedStream,
  BreakpadInfoStream,
  AssertionInfoStream,
  LinuxCpuInfo,
  LinuxProcStatus,
  LinuxLsbRelease,
  LinuxCmdLine,
  LinuxEnviron,
  LinuxAuxv,
  LinuxMaps,
  LinuxDsoDebug,
  CrashpadInfoStream,
  MozMacosCrashInfoStream,
  MozMacosBootargsStream,
  MozLinuxLimits,
  MozSoftErrors,
  StabilityReportStream,
}

-- the number of each type
abbrev pub number_of : MINIDUMP_STREAM_TYPE → ℕ
number_of UnusedStream = 0
number_of ReservedStream0 = 1
number_of ReservedStream1 = 2
number_of ThreadListStream = 3
number_of ModuleListStream = 4
number_of MemoryListStream = 5
number_of ExceptionStream = 6
number_of SystemInfoStream = 7
number_of ThreadExListStream = 8
number_of Memory64ListStream = 9
number_of CommentStreamA = 10
number_of CommentStreamW = 11
number_of HandleDataStream = 12
number_of FunctionTable = 13
number_of UnloadedModuleListStream = 14
number_of MiscInfoStream = 15
number_of MemoryInfoListStream = 16
number_of ThreadInfoListStream = 17
number_of HandleOperationListStream = 18
number_of TokenStream = 19
number_of JavaScriptDataStream = 20
number_of SystemMemoryInfoStream = 21
number_of ProcessVmCountersStream = 22
number_of IptTraceStream = 23
number_of ThreadNamesStream = 24
number_of ceStreamNull = 0x8000
number_of ceStreamSystemInfo = 0x8001
number_of ceStreamException = 0x8002
number_of ceStreamModuleList = 0x8003
number_of ceStreamProcessList = 0x8004
number_of ceStreamThreadList = 0x8005
number_of ceStreamThreadContextList = 0x8006
number_of ceStreamThreadCallStackList = 0x8007
number_of ceStreamMemoryVirtualList = 0x8008
number_of ceStreamMemoryPhysicalList = 0x8009
number_of ceStreamBucketParameters = 0x800a
number_of ceStreamProcessModuleMap = 0x800b
number_of ceStreamDiagnosisList = 0x800c
number_of LastReservedStream = 0xffff
number_of BreakpadInfoStream = 0x47670001
number_of AssertionInfoStream = 0x47670002
number_of LinuxCpuInfo = 0x47670003
number_of LinuxProcStatus = 0x47670004
number_of LinuxLsbRelease = 0x47670005
number_of LinuxCmdLine = 0x47670006
number_of LinuxEnviron = 0x47670007
number_of LinuxAuxv = 0x47670008
number_of LinuxMaps = 0x47670009
number_of LinuxDsoDebug = 0x4767000a
number_of CrashpadInfoStream = 0x43500001
number_of MozMacosCrashInfoStream = 0x4d7a0001
number_of MozMacosBootargsStream = 0x4d7a0002
number_of MozLinuxLimits = 0x4d7a0003
number_of MozSoftErrors = 0x4d7a0004
number_of StabilityReportStream = 0x4b6b0002

-- its name
abbrev pub type_name : MINIDUMP_STREAM_TYPE → List ℕ
type_name UnusedStream = codes "UnusedStream"
type_name ReservedStream0 = codes "ReservedStream0"
type_name ReservedStream1 = codes "ReservedStream1"
type_name ThreadListStream = codes "ThreadListStream"
type_name ModuleListStream = codes "ModuleListStream"
type_name MemoryListStream = codes "MemoryListStream"
type_name ExceptionStream = codes "ExceptionStream"
type_name SystemInfoStream = codes "SystemInfoStream"
type_name ThreadExListStream = codes "ThreadExListStream"
type_name Memory64ListStream = codes "Memory64ListStream"
type_name CommentStreamA = codes "CommentStreamA"
type_name CommentStreamW = codes "CommentStreamW"
type_name HandleDataStream = codes "HandleDataStream"
type_name FunctionTable = codes "FunctionTable"
type_name UnloadedModuleListStream = codes "UnloadedModuleListStream"
type_name MiscInfoStream = codes "MiscInfoStream"
type_name MemoryInfoListStream = codes "MemoryInfoListStream"
type_name ThreadInfoListStream = codes "ThreadInfoListStream"
type_name HandleOperationListStream = codes "HandleOperationListStream"
type_name TokenStream = codes "TokenStream"
type_name JavaScriptDataStream = codes "JavaScriptDataStream"
type_name SystemMemoryInfoStream = codes "SystemMemoryInfoStream"
type_name ProcessVmCountersStream = codes "ProcessVmCountersStream"
type_name IptTraceStream = codes "IptTraceStream"
type_name ThreadNamesStream = codes "ThreadNamesStream"
type_name ceStreamNull = codes "ceStreamNull"
type_name ceStreamSystemInfo = codes "ceStreamSystemInfo"
type_name ceStreamException = codes "ceStreamException"
type_name ceStreamModuleList = codes "ceStreamModuleList"
type_name ceStreamProcessList = codes "ceStreamProcessList"
type_name ceStreamThreadList = codes "ceStreamThreadList"
type_name ceStreamThreadContextList = codes "ceStreamThreadContextList"
type_name ceStreamThreadCallStackList = codes "ceStreamThreadCallStackList"
type_name ceStreamMemoryVirtualList = codes "ceStreamMemoryVirtualList"
type_name ceStreamMemoryPhysicalList = codes "ceStreamMemoryPhysicalList"
type_name ceStreamBucketParameters = codes "ceStreamBucketParameters"
type_name ceStreamProcessModuleMap = codes "ceStreamProcessModuleMap"
type_name ceStreamDiagnosisList = codes "ceStreamDiagnosisList"
type_name LastReservedStream = codes "LastReservedStream"
type_name BreakpadInfoStream = codes "BreakpadInfoStream"
type_name AssertionInfoStream = codes "AssertionInfoStream"
type_name LinuxCpuInfo = codes "LinuxCpuInfo"
type_name LinuxProcStatus = codes "LinuxProcStatus"
type_name LinuxLsbRelease = codes "LinuxLsbRelease"
type_name LinuxCmdLine = codes "LinuxCmdLine"
type_name LinuxEnviron = codes "LinuxEnviron"
type_name LinuxAuxv = codes "LinuxAuxv"
type_name LinuxMaps = codes "LinuxMaps"
type_name LinuxDsoDebug = codes "LinuxDsoDebug"
type_name CrashpadInfoStream = codes "CrashpadInfoStream"
type_name MozMacosCrashInfoStream = codes "MozMacosCrashInfoStream"
type_name MozMacosBootargsStream = codes "MozMacosBootargsStream"
type_name MozLinuxLimits = codes "MozLinuxLimits"
type_name MozSoftErrors = codes "MozSoftErrors"
type_name StabilityReportStream = codes "StabilityReportStream"

-- whether its streams are listed, but never read
abbrev pub is_unimplemented : MINIDUMP_STREAM_TYPE → Bool
is_unimplemented UnusedStream = true
is_unimplemented ReservedStream0 = true
is_unimplemented ReservedStream1 = true
is_unimplemented ThreadListStream = false
is_unimplemented ModuleListStream = false
is_unimplemented MemoryListStream = false
is_unimplemented ExceptionStream = false
is_unimplemented SystemInfoStream = false
is_unimplemented ThreadExListStream = true
is_unimplemented Memory64ListStream = false
is_unimplemented CommentStreamA = true
is_unimplemented CommentStreamW = true
is_unimplemented HandleDataStream = false
is_unimplemented FunctionTable = true
is_unimplemented UnloadedModuleListStream = false
is_unimplemented MiscInfoStream = false
is_unimplemented MemoryInfoListStream = false
is_unimplemented ThreadInfoListStream = false
is_unimplemented HandleOperationListStream = true
is_unimplemented TokenStream = true
is_unimplemented JavaScriptDataStream = true
is_unimplemented SystemMemoryInfoStream = true
is_unimplemented ProcessVmCountersStream = true
is_unimplemented IptTraceStream = true
is_unimplemented ThreadNamesStream = false
is_unimplemented ceStreamNull = true
is_unimplemented ceStreamSystemInfo = true
is_unimplemented ceStreamException = true
is_unimplemented ceStreamModuleList = true
is_unimplemented ceStreamProcessList = true
is_unimplemented ceStreamThreadList = true
is_unimplemented ceStreamThreadContextList = true
is_unimplemented ceStreamThreadCallStackList = true
is_unimplemented ceStreamMemoryVirtualList = true
is_unimplemented ceStreamMemoryPhysicalList = true
is_unimplemented ceStreamBucketParameters = true
is_unimplemented ceStreamProcessModuleMap = true
is_unimplemented ceStreamDiagnosisList = true
is_unimplemented LastReservedStream = true
is_unimplemented BreakpadInfoStream = false
is_unimplemented AssertionInfoStream = false
is_unimplemented LinuxCpuInfo = false
is_unimplemented LinuxProcStatus = false
is_unimplemented LinuxLsbRelease = false
is_unimplemented LinuxCmdLine = true
is_unimplemented LinuxEnviron = false
is_unimplemented LinuxAuxv = true
is_unimplemented LinuxMaps = false
is_unimplemented LinuxDsoDebug = true
is_unimplemented CrashpadInfoStream = false
is_unimplemented MozMacosCrashInfoStream = false
is_unimplemented MozMacosBootargsStream = false
is_unimplemented MozLinuxLimits = false
is_unimplemented MozSoftErrors = false
is_unimplemented StabilityReportStream = false

-- all types
abbrev pub every_type : List MINIDUMP_STREAM_TYPE
every_type = UnusedStream ∷ ReservedStream0 ∷ ReservedStream1 ∷ ThreadListStream ∷ ModuleListStream
    ∷ MemoryListStream ∷ ExceptionStream
    ∷ SystemInfoStream ∷ ThreadExListStream ∷ Memory64ListStream ∷ CommentStreamA ∷ CommentStreamW
    ∷ HandleDataStream ∷ FunctionTable
    ∷ UnloadedModuleListStream ∷ MiscInfoStream ∷ MemoryInfoListStream ∷ ThreadInfoListStream
    ∷ HandleOperationListStream ∷ TokenStream
    ∷ JavaScriptDataStream ∷ SystemMemoryInfoStream ∷ ProcessVmCountersStream ∷ IptTraceStream
    ∷ ThreadNamesStream ∷ ceStreamNull ∷ ceStreamSystemInfo
    ∷ ceStreamException ∷ ceStreamModuleList ∷ ceStreamProcessList ∷ ceStreamThreadList
    ∷ ceStreamThreadContextList ∷ ceStreamThreadCallStackList
    ∷ ceStreamMemoryVirtualList ∷ ceStreamMemoryPhysicalList ∷ ceStreamBucketParameters
    ∷ ceStreamProcessModuleMap ∷ ceStreamDiagnosisList
    ∷ LastReservedStream ∷ BreakpadInfoStream ∷ AssertionInfoStream ∷ LinuxCpuInfo ∷ LinuxProcStatus
    ∷ LinuxLsbRelease ∷ LinuxCmdLine ∷ LinuxEnviron
    ∷ LinuxAuxv ∷ LinuxMaps ∷ LinuxDsoDebug ∷ CrashpadInfoStream ∷ MozMacosCrashInfoStream
    ∷ MozMacosBootargsStream ∷ MozLinuxLimits ∷ MozSoftErrors
    ∷ StabilityReportStream ∷ []

-- the type that has a number, which is no other's
abbrev pub stream_type_of : ℕ → Option MINIDUMP_STREAM_TYPE
stream_type_of n = find (λ t. number_of t == n) every_type
