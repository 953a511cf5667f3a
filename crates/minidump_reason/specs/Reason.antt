-- The reason of a crash: a decision table over the system, the processor, the exception record and
-- the listed codes. Windows' winnt.h and ntstatus.h, Darwin's mach/exception_types.h, Linux'
-- asm/signal.h.
use Rattle.std.specs.Prelude.{ℕ, ◌%◌, ◌^◌, ◌==◌, nat_le, not, ◌&&◌, Bool, true, false, List, [], ◌∷◌}
use Rattle.std.specs.Prelude.{bit_and, slice_index, Option, Some, None, unwrap_or, if◌then◌else◌}
use Rattle.minidump_format.specs.declared.format.exception.MINIDUMP_EXCEPTION.{MINIDUMP_EXCEPTION}
use Rattle.minidump_system.specs.declared.os.Os.{Os}
use Rattle.minidump_system.specs.declared.os.Os.TheVariants.{Windows, MacOs, Ios, Linux, Android}
use Rattle.minidump_system.specs.declared.cpu.Cpu.{Cpu}
use Rattle.minidump_system.specs.declared.cpu.Cpu.TheVariants.{X86, X86_64, Ppc, Arm64}
use Rattle.minidump_reason.specs.declared.family.CodeFamily.{CodeFamily}
use Rattle.minidump_reason.specs.declared.family.CodeFamily.TheVariants as family
use Rattle.minidump_reason.specs.declared.reason.CrashReason.{CrashReason}
use Rattle.minidump_reason.specs.declared.reason.CrashReason.TheVariants as reason
use Rattle.minidump_reason.specs.Bits.{bits_of}
use Rattle.minidump_reason.specs.Names.{Lists, is_in}

-- the reason of the first row whose condition is met
abbrev pub first_match : List (Bool × CrashReason) → CrashReason → CrashReason
first_match [] otherwise = otherwise
first_match ((condition, answer) ∷ rows) otherwise =
    if condition then answer else first_match rows otherwise

-- ---- Windows

-- HRESULT of winerror.h: the facility in bits 16 to 27, the error in the 16 below
abbrev pub windows_error_with_facility : Lists → ℕ → Option CrashReason
windows_error_with_facility names c =
    if not (bit_and c 0xf0000000 == 0)
    && (is_in names family.WinErrorFacility (bits_of c 16 12)
    && is_in names family.WinError (bits_of c 0 16))
    then Some (reason.WindowsWinErrorWithFacility (bits_of c 16 12) (bits_of c 0 16)) else None

-- an error code of winerror.h or ntstatus.h
abbrev pub windows_error : Lists → ℕ → CrashReason
windows_error names c = first_match (
    (is_in names family.WinError c, reason.WindowsWinError c)
    ∷ (is_in names family.NtStatus c, reason.WindowsNtStatus c)
    ∷ []) (unwrap_or (windows_error_with_facility names c) (reason.WindowsUnknown c))

-- an exception code, else an error code
abbrev pub windows_code : Lists → ℕ → CrashReason
windows_code names c = first_match (
    (is_in names family.Windows c, reason.WindowsGeneral c)
    ∷ []) (windows_error names c)

-- EXCEPTION_ACCESS_VIOLATION, EXCEPTION_IN_PAGE_ERROR and STATUS_STACK_BUFFER_OVERRUN, by k
-- parameters, p0 and p2 of them
abbrev refine_windows : Lists → ℕ → ℕ → ℕ → CrashReason → CrashReason
refine_windows names k p0 p2 (reason.WindowsGeneral c) = first_match (
    (c == 0xc0000005 && (nat_le 1 k && is_in names family.WindowsAccess p0), reason.WindowsAccessViolation p0)
    ∷ (
      c == 0xc0000006 && (nat_le 3 k && is_in names family.WindowsInPageError p0),
      reason.WindowsInPageError p0 (p2 % 2 ^ 32),
    )
    ∷ []) (reason.WindowsGeneral c)
refine_windows names k p0 p2 (reason.WindowsNtStatus c) = first_match (
    (c == 0xc0000409 && nat_le 1 k, reason.WindowsStackBufferOverrun (p0 % 2 ^ 32))
    ∷ []) (reason.WindowsNtStatus c)
refine_windows names k p0 p2 other = other

-- the reason for an exception of Windows, by EXCEPTION_RECORD of winnt.h
abbrev pub windows_reason : Lists → MINIDUMP_EXCEPTION → CrashReason
windows_reason names r =
    refine_windows names r.number_parameters
    (slice_index r.exception_information 0) (slice_index r.exception_information 2)
    (windows_code names r.exception_code)

-- ---- macOS and iOS

-- the processor is an ARM of 64 bits
abbrev is_arm : Cpu → Bool
is_arm Arm64 = true
is_arm _ = false

-- the processor is a PowerPC of 32 bits
abbrev is_ppc : Cpu → Bool
is_ppc Ppc = true
is_ppc _ = false

-- the processor is an x86 or an x86-64
abbrev is_x86 : Cpu → Bool
is_x86 X86 = true
is_x86 X86_64 = true
is_x86 _ = false

-- three rows: the reason of the processor's family, if its list has the flags
abbrev pub by_processor : Lists → Cpu → ℕ → (CodeFamily × CrashReason) → (CodeFamily × CrashReason)
    → (CodeFamily × CrashReason) → CrashReason → CrashReason
by_processor names cpu f arm ppc x86 otherwise = first_match (
    (is_arm cpu && is_in names arm.0 f, arm.1)
    ∷ (is_ppc cpu && is_in names ppc.0 f, ppc.1)
    ∷ (is_x86 cpu && is_in names x86.0 f, x86.1)
    ∷ []) otherwise

-- a listed code c by the flags f and the parameters p1 and p2: 1 EXC_BAD_ACCESS,
-- 2 EXC_BAD_INSTRUCTION, 3 EXC_ARITHMETIC, 5 EXC_SOFTWARE, 6 EXC_BREAKPOINT, 11 EXC_RESOURCE,
-- 12 EXC_GUARD
abbrev pub mac_exception_reason : Lists → Cpu → ℕ → ℕ → ℕ → ℕ → CrashReason
mac_exception_reason names cpu c f p1 p2 = first_match (
    (c == 1 && is_in names family.MacBadAccessKern f, reason.MacBadAccessKern f)
    ∷ (c == 1 && (is_arm cpu && is_in names family.MacBadAccessArm f), reason.MacBadAccessArm f)
    ∷ (c == 1 && (is_ppc cpu && is_in names family.MacBadAccessPpc f), reason.MacBadAccessPpc f)
    ∷ (c == 1 && (is_x86 cpu && is_in names family.MacBadAccessX86 f), reason.MacBadAccessX86 f)
    ∷ (c == 2 && (is_arm cpu && is_in names family.MacBadInstructionArm f), reason.MacBadInstructionArm f)
    ∷ (c == 2 && (is_ppc cpu && is_in names family.MacBadInstructionPpc f), reason.MacBadInstructionPpc f)
    ∷ (c == 2 && (is_x86 cpu && is_in names family.MacBadInstructionX86 f), reason.MacBadInstructionX86 f)
    ∷ (c == 3 && (is_arm cpu && is_in names family.MacArithmeticArm f), reason.MacArithmeticArm f)
    ∷ (c == 3 && (is_ppc cpu && is_in names family.MacArithmeticPpc f), reason.MacArithmeticPpc f)
    ∷ (c == 3 && (is_x86 cpu && is_in names family.MacArithmeticX86 f), reason.MacArithmeticX86 f)
    ∷ (c == 5 && is_in names family.MacSoftware f, reason.MacSoftware f)
    ∷ (c == 6 && (is_arm cpu && is_in names family.MacBreakpointArm f), reason.MacBreakpointArm f)
    ∷ (c == 6 && (is_ppc cpu && is_in names family.MacBreakpointPpc f), reason.MacBreakpointPpc f)
    ∷ (c == 6 && (is_x86 cpu && is_in names family.MacBreakpointX86 f), reason.MacBreakpointX86 f)
    ∷ (c == 11 && is_in names family.MacResource (bits_of f 29 3), reason.MacResource (bits_of f 29 3) p1 p2)
    ∷ (c == 12 && is_in names family.MacGuard (bits_of f 29 3), reason.MacGuard (bits_of f 29 3) p1 p2)
    ∷ []) (reason.MacGeneral c f)

-- the reason for an exception of macOS or iOS; none for an unlisted code
abbrev pub mac_reason : Lists → Cpu → MINIDUMP_EXCEPTION → Option CrashReason
mac_reason names cpu r =
    if is_in names family.Mac r.exception_code
    then Some (mac_exception_reason names cpu r.exception_code r.exception_flags
    (slice_index r.exception_information 1) (slice_index r.exception_information 2))
    else None

-- ---- Linux and Android

-- a listed signal c by the flags f, its si_code: 4 SIGILL, 5 SIGTRAP, 7 SIGBUS, 8 SIGFPE,
-- 11 SIGSEGV, 31 SIGSYS
abbrev pub linux_signal_reason : Lists → ℕ → ℕ → CrashReason
linux_signal_reason names c f = first_match (
    (c == 4 && is_in names family.LinuxSigill f, reason.LinuxSigill f)
    ∷ (c == 5 && is_in names family.LinuxSigtrap f, reason.LinuxSigtrap f)
    ∷ (c == 7 && is_in names family.LinuxSigbus f, reason.LinuxSigbus f)
    ∷ (c == 8 && is_in names family.LinuxSigfpe f, reason.LinuxSigfpe f)
    ∷ (c == 11 && is_in names family.LinuxSigsegv f, reason.LinuxSigsegv f)
    ∷ (c == 31 && is_in names family.LinuxSigsys f, reason.LinuxSigsys f)
    ∷ []) (reason.LinuxGeneral c f)

-- the reason for a signal of Linux or Android; none for an unlisted one
abbrev pub linux_reason : Lists → MINIDUMP_EXCEPTION → Option CrashReason
linux_reason names r =
    if is_in names family.Linux r.exception_code
    then Some (linux_signal_reason names r.exception_code r.exception_flags)
    else None

-- ---- every system

-- an exception by its system; there is no table for the others
abbrev reason_by_system : Lists → Os → Cpu → MINIDUMP_EXCEPTION → Option CrashReason
reason_by_system names MacOs cpu r = mac_reason names cpu r
reason_by_system names Ios cpu r = mac_reason names cpu r
reason_by_system names Linux cpu r = linux_reason names r
reason_by_system names Android cpu r = linux_reason names r
reason_by_system names Windows cpu r = Some (windows_reason names r)
reason_by_system names other cpu r = None

-- an exception: it is unknown where its system has no table or doesn't list its code
abbrev pub crash_reason : Lists → Os → Cpu → MINIDUMP_EXCEPTION → CrashReason
crash_reason names os cpu r =
    unwrap_or (reason_by_system names os cpu r) (reason.Unknown r.exception_code r.exception_flags)
