-- The text of a crash reason. Darwin's kern/exc_resource.h and kern/exc_guard.h name what codes and
-- subcodes hold; the bits that are read stand at each definition.
use Rattle.std.specs.Prelude.{ℕ, ◌==◌, List, [], ◌∷◌, ◌++◌, codes, Option, Some, None, unwrap_or}
use Rattle.std.specs.Prelude.{if◌then◌else◌}
use Rattle.std.specs.Fmt.{decimal}
use Rattle.std.specs.List.{concat}
use Rattle.minidump_bytes.specs.Piece.{wide_hex}
use Rattle.minidump_reason.specs.declared.family.CodeFamily.{CodeFamily}
use Rattle.minidump_reason.specs.declared.family.CodeFamily.TheVariants as family
use Rattle.minidump_reason.specs.declared.reason.CrashReason.{CrashReason}
use Rattle.minidump_reason.specs.declared.reason.CrashReason.TheVariants as reason
use Rattle.minidump_reason.specs.Bits.{bits_of}
use Rattle.minidump_reason.specs.Names.{Lists, name_of}

-- what `{:#010x}` writes
abbrev pub hex8 : ℕ → List ℕ
hex8 n = codes "0x" ++ wide_hex 8 n

-- what `{:#018x}` writes
abbrev pub hex16 : ℕ → List ℕ
hex16 n = codes "0x" ++ wide_hex 16 n

-- the name of a code, or an unlisted code itself
unfoldable pub name_text : Lists → CodeFamily → ℕ → List ℕ
name_text names family code = unwrap_or (name_of names family code) (hex8 code)

-- a prefix and the name of a code
unfoldable pub name_with_prefix : Lists → List ℕ → CodeFamily → ℕ → List ℕ
name_with_prefix names prefix family code = prefix ++ name_text names family code

-- the name of a flavor with its details, or the code and the subcode of an unlisted one
abbrev pub flavor_text : Option (List ℕ) → List ℕ → ℕ → ℕ → List ℕ
flavor_text (Some name) details code subcode = name ++ details
flavor_text None details code subcode = hex16 code ++ (codes " / " ++ hex16 subcode)

-- ---- macOS and iOS

-- an exception by its name; 0x43507378 is Crashpad's simulated one
unfoldable pub mac_general_text : Lists → ℕ → ℕ → List ℕ
mac_general_text names c f =
    if c == 0x43507378 then codes "Simulated Exception"
    else concat (name_text names family.Mac c ∷ codes " / " ∷ hex8 f ∷ [])

-- a limit by the name of its flavor, in bits 58 to 60 of the code, and its details
abbrev limit : Lists → ℕ → ℕ → CodeFamily → List ℕ → List ℕ
limit names code subcode family details =
    flavor_text (name_of names family (bits_of code 58 3)) details code subcode

-- a limit of CPU time: the interval in bits 7 to 31 of the code, the limit in bits 0 to 2, and what
-- was consumed in bits 0 to 2 of the subcode
abbrev pub cpu_limit : Lists → ℕ → ℕ → List ℕ
cpu_limit names code subcode = limit names code subcode family.MacResourceCpu (concat (
    codes " interval: " ∷ decimal (bits_of code 7 25)
    ∷ codes "s CPU limit: " ∷ decimal (bits_of code 0 3)
    ∷ codes "% CPU consumed: " ∷ decimal (bits_of subcode 0 3) ∷ codes "%" ∷ []))

-- a limit of wakeups: the interval in bits 20 to 39 of the code, the limit in bits 0 to 11, and
-- what was observed in bits 0 to 11 of the subcode
abbrev pub wakeups_limit : Lists → ℕ → ℕ → List ℕ
wakeups_limit names code subcode = limit names code subcode family.MacResourceWakeups (concat (
    codes " interval: " ∷ decimal (bits_of code 20 20)
    ∷ codes "s wakeups permitted: " ∷ decimal (bits_of code 0 12)
    ∷ codes " wakeups observed: " ∷ decimal (bits_of subcode 0 12) ∷ []))

-- a limit of memory: the limit in bits 0 to 12 of the code
abbrev pub memory_limit : Lists → ℕ → ℕ → List ℕ
memory_limit names code subcode = limit names code subcode family.MacResourceMemory (concat (
    codes " high watermark limit: " ∷ decimal (bits_of code 0 13) ∷ codes "MiB" ∷ []))

-- a limit of input and output: the interval in bits 15 to 31 of the code, the limit in bits 0 to
-- 14, and what was observed in bits 0 to 14 of the subcode
abbrev pub io_limit : Lists → ℕ → ℕ → List ℕ
io_limit names code subcode = limit names code subcode family.MacResourceIo (concat (
    codes " interval: " ∷ decimal (bits_of code 15 17)
    ∷ codes "s I/O limit: " ∷ decimal (bits_of code 0 15)
    ∷ codes "% I/O observed: " ∷ decimal (bits_of subcode 0 15) ∷ codes "%" ∷ []))

-- a limit of threads: the limit in bits 0 to 14 of the code
abbrev pub threads_limit : Lists → ℕ → ℕ → List ℕ
threads_limit names code subcode = limit names code subcode family.MacResourceThreads (concat (
    codes " high watermark limit: " ∷ decimal (bits_of code 0 15) ∷ []))

-- a limit by the type of the resource: 1 CPU, 2 WAKEUPS, 3 MEMORY, 4 IO, 5 THREADS
unfoldable pub resource_flavor : Lists → ℕ → ℕ → ℕ → List ℕ
resource_flavor names kind code subcode =
    if kind == 1 then cpu_limit names code subcode else (
    if kind == 2 then wakeups_limit names code subcode else (
    if kind == 3 then memory_limit names code subcode else (
    if kind == 4 then io_limit names code subcode else (
    if kind == 5 then threads_limit names code subcode
    else flavor_text None [] code subcode))))

-- EXC_RESOURCE
abbrev pub resource_text : Lists → ℕ → ℕ → ℕ → List ℕ
resource_text names kind code subcode =
    name_with_prefix names (codes "EXC_RESOURCE / ") family.MacResource kind
    ++ (codes " / " ++ resource_flavor names kind code subcode)

-- a guard by the name of its flavor, in bits 32 to 60 of the code, and its details
abbrev pub guard : Lists → ℕ → ℕ → CodeFamily → List ℕ → List ℕ
guard names code subcode family details =
    codes " / " ++ flavor_text (name_of names family (bits_of code 32 29)) details code subcode

-- a guard that has a flavor, by its type: 1 MACH_PORT, 2 FD, 4 VN, 5 VIRT_MEMORY, 6 REJECTED_SC.
-- The port, the file descriptor and the process are bits 0 to 27 of the code
unfoldable pub guard_flavor : Lists → ℕ → ℕ → ℕ → List ℕ
guard_flavor names kind code subcode =
    if kind == 1 then guard names code subcode family.MacGuardMachPort (concat (
    codes " port name: " ∷ decimal (bits_of code 0 28)
    ∷ (if subcode == 0 then [] else codes " subcode: " ++ decimal subcode) ∷ [])) else (
    if kind == 2 then guard names code subcode family.MacGuardFd (concat (
    codes " file descriptor: " ∷ decimal (bits_of code 0 28)
    ∷ codes " guard identifier: " ∷ decimal subcode ∷ [])) else (
    if kind == 4 then guard names code subcode family.MacGuardVn (concat (
    codes " pid: " ∷ decimal (bits_of code 0 28)
    ∷ codes " guard identifier: " ∷ decimal subcode ∷ [])) else (
    if kind == 5 then guard names code subcode family.MacGuardVirtMemory (concat (
    codes " offset: " ∷ decimal subcode ∷ [])) else (
    if kind == 6 then guard names code subcode family.MacGuardRejectedSysCall (concat (
    codes " syscall: " ∷ decimal subcode ∷ []))
    else codes " / " ++ flavor_text None [] code subcode))))

-- a guard by its type: 0 NONE, which has no details, 3 USER, which has no flavor, or one with a
-- flavor
unfoldable pub guard_detail : Lists → ℕ → ℕ → ℕ → List ℕ
guard_detail names kind code subcode =
    if kind == 0 then [] else (
    if kind == 3 then concat (codes "/ namespace: " ∷ decimal (bits_of code 0 32)
    ∷ codes " guard identifier: " ∷ decimal subcode ∷ [])
    else guard_flavor names kind code subcode)

-- EXC_GUARD
abbrev pub guard_text : Lists → ℕ → ℕ → ℕ → List ℕ
guard_text names kind code subcode =
    name_with_prefix names (codes "EXC_GUARD / ") family.MacGuard kind
    ++ guard_detail names kind code subcode

-- ---- Linux and Android

-- the si_code; a listed 0, SI_USER, is left out
abbrev sicode_text : Option (List ℕ) → ℕ → List ℕ
sicode_text (Some name) f = if f == 0 then [] else codes " / " ++ name
sicode_text None f = codes " / " ++ hex8 f

-- a signal by its name, with its si_code
unfoldable pub linux_general_text : Lists → ℕ → ℕ → List ℕ
linux_general_text names c f =
    name_text names family.Linux c ++ sicode_text (name_of names family.LinuxSicode f) f

-- ---- Windows

-- an exception by its name; Chromium's out of memory, Visual C++'s exception and Crashpad's
-- simulated one have texts of their own
unfoldable pub windows_general_text : Lists → ℕ → List ℕ
windows_general_text names c =
    if c == 0xe0000008 then codes "Out of Memory" else (
    if c == 0xe06d7363 then codes "Unhandled C++ Exception" else (
    if c == 0x0517a7ed then codes "Simulated Exception" else name_text names family.Windows c))

-- ---- every reason

-- the text of a reason
abbrev pub reason_text : Lists → CrashReason → List ℕ
reason_text names (reason.MacGeneral c f) = mac_general_text names c f
reason_text names (reason.MacBadAccessKern f) =
    name_with_prefix names (codes "EXC_BAD_ACCESS / ") family.MacBadAccessKern f
reason_text names (reason.MacBadAccessArm f) =
    name_with_prefix names (codes "EXC_BAD_ACCESS / ") family.MacBadAccessArm f
reason_text names (reason.MacBadAccessPpc f) =
    name_with_prefix names (codes "EXC_BAD_ACCESS / ") family.MacBadAccessPpc f
reason_text names (reason.MacBadAccessX86 f) =
    name_with_prefix names (codes "EXC_BAD_ACCESS / ") family.MacBadAccessX86 f
reason_text names (reason.MacBadInstructionArm f) =
    name_with_prefix names (codes "EXC_BAD_INSTRUCTION / ") family.MacBadInstructionArm f
reason_text names (reason.MacBadInstructionPpc f) =
    name_with_prefix names (codes "EXC_BAD_INSTRUCTION / ") family.MacBadInstructionPpc f
reason_text names (reason.MacBadInstructionX86 f) =
    name_with_prefix names (codes "EXC_BAD_INSTRUCTION / ") family.MacBadInstructionX86 f
reason_text names (reason.MacArithmeticArm f) =
    name_with_prefix names (codes "EXC_ARITHMETIC / ") family.MacArithmeticArm f
reason_text names (reason.MacArithmeticPpc f) =
    name_with_prefix names (codes "EXC_ARITHMETIC / ") family.MacArithmeticPpc f
reason_text names (reason.MacArithmeticX86 f) =
    name_with_prefix names (codes "EXC_ARITHMETIC / ") family.MacArithmeticX86 f
reason_text names (reason.MacSoftware f) =
    name_with_prefix names (codes "EXC_SOFTWARE / ") family.MacSoftware f
reason_text names (reason.MacBreakpointArm f) =
    name_with_prefix names (codes "EXC_BREAKPOINT / ") family.MacBreakpointArm f
reason_text names (reason.MacBreakpointPpc f) =
    name_with_prefix names (codes "EXC_BREAKPOINT / ") family.MacBreakpointPpc f
reason_text names (reason.MacBreakpointX86 f) =
    name_with_prefix names (codes "EXC_BREAKPOINT / ") family.MacBreakpointX86 f
reason_text names (reason.MacResource kind code subcode) = resource_text names kind code subcode
reason_text names (reason.MacGuard kind code subcode) = guard_text names kind code subcode
reason_text names (reason.LinuxGeneral c f) = linux_general_text names c f
reason_text names (reason.LinuxSigill f) =
    name_with_prefix names (codes "SIGILL / ") family.LinuxSigill f
reason_text names (reason.LinuxSigtrap f) =
    name_with_prefix names (codes "SIGTRAP / ") family.LinuxSigtrap f
reason_text names (reason.LinuxSigbus f) =
    name_with_prefix names (codes "SIGBUS / ") family.LinuxSigbus f
reason_text names (reason.LinuxSigfpe f) =
    name_with_prefix names (codes "SIGFPE / ") family.LinuxSigfpe f
reason_text names (reason.LinuxSigsegv f) =
    name_with_prefix names (codes "SIGSEGV / ") family.LinuxSigsegv f
reason_text names (reason.LinuxSigsys f) =
    name_with_prefix names (codes "SIGSYS / ") family.LinuxSigsys f
reason_text names (reason.WindowsGeneral c) = windows_general_text names c
reason_text names (reason.WindowsWinError c) = name_with_prefix names [] family.WinError c
reason_text names (reason.WindowsWinErrorWithFacility facility c) =
    name_with_prefix names [] family.WinErrorFacility facility
    ++ name_with_prefix names (codes " / ") family.WinError c
reason_text names (reason.WindowsNtStatus c) = name_with_prefix names [] family.NtStatus c
reason_text names (reason.WindowsAccessViolation kind) =
    name_with_prefix names (codes "EXCEPTION_ACCESS_VIOLATION_") family.WindowsAccess kind
reason_text names (reason.WindowsInPageError kind status) =
    name_with_prefix names (codes "EXCEPTION_IN_PAGE_ERROR_") family.WindowsInPageError kind
    ++ name_with_prefix names (codes " / ") family.NtStatus status
reason_text names (reason.WindowsStackBufferOverrun c) =
    name_with_prefix names (codes "EXCEPTION_STACK_BUFFER_OVERRUN / ") family.FastFail c
reason_text names (reason.WindowsUnknown c) = codes "unknown " ++ hex8 c
reason_text names (reason.Unknown c f) =
    concat (codes "unknown " ∷ hex8 c ∷ codes " / " ∷ hex8 f ∷ [])
