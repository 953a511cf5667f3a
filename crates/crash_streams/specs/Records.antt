-- What the record of an exception says: the parameters, LLDB's text over them, and by its system
-- how memory was accessed, and who sent a signal.
use Rattle.std.specs.Prelude.{ℕ, codes, false, true, ◌-◌, ◌%◌, ◌/◌, ◌^◌, ◌==◌, ◌||◌, ◌&&◌, nat_le, nat_lt, not, Bool}
use Rattle.std.specs.Prelude.{List, min, slice_index, take, length, Option, Some, None, if◌then◌else◌}
use Rattle.std.specs.Prelude.{is_some}
use Rattle.std.specs.Int.{to_le_bytes, w64}
use Rattle.std.specs.List.{before_first, flat_map}
use Rattle.std.specs.Option.{option_and_then, option_map_or}
use Rattle.std.specs.Str.Lossy.{utf8_lossy}
use Rattle.minidump.specs.declared.format.MINIDUMP_EXCEPTION.{MINIDUMP_EXCEPTION}
use Rattle.minidump.specs.declared.system_info.Cpu.{Cpu}
use Rattle.minidump.specs.declared.system_info.Cpu.TheVariants.{X86, X86_64}
use Rattle.minidump.specs.declared.system_info.Os.{Os}
use Rattle.minidump.specs.declared.system_info.Os.TheVariants.{Android, Ios, Linux, MacOs, Windows}
use Rattle.minidump.specs.declared.system_info.PointerWidth.{PointerWidth}
use Rattle.minidump.specs.declared.system_info.PointerWidth.TheVariants.{Bits32}
use Rattle.minidump.specs.Below.System.Cpu.{width_of}
use Rattle.minidump.specs.Below.System.System.{System}
use Rattle.minidump.specs.Exception.{crash_address}
use Rattle.crash_streams.specs.declared.records.Access.{Access}
use Rattle.crash_streams.specs.declared.records.Access.TheVariants.{Execute, Read, Write}
use Rattle.crash_streams.specs.declared.records.Sender.{Sender}
use Rattle.crash_streams.specs.declared.records.SignalCode.{SignalCode}
use Rattle.crash_streams.specs.declared.records.SignalCode.TheVariants.{Queue, Tkill, User}

-- the parameters: NumberParameters of them, at most the 15 that a record has
abbrev pub parameters_in : MINIDUMP_EXCEPTION → List ℕ
parameters_in r = take (min r.number_parameters 15) r.exception_information

-- ---- the text of LLDB

-- the flags of a record are those of LLDB, which then writes a text over the parameters: LLDB_FLAG of llvm's
-- BinaryFormat/Minidump.h, C's constant 'LLDB'
abbrev has_lldb_flag : MINIDUMP_EXCEPTION → Bool
has_lldb_flag r = r.exception_flags == 0x4c4c_4442

-- that text: the bytes of all parameters, each from its lowest byte on, up to the first 0, with U+FFFD for what
-- isn't UTF-8; none where it is empty
abbrev pub description_in : MINIDUMP_EXCEPTION → Option (List ℕ)
description_in r =
    let bytes = before_first (λ b. b == 0) (flat_map (to_le_bytes w64) r.exception_information) in
    if has_lldb_flag r then (if length bytes == 0 then None else Some (utf8_lossy bytes)) else None

-- ---- accesses

-- an exception of Windows is an access to a guard page, as to that at the end of a stack: winnt.h's EXCEPTION_GUARD_PAGE
-- and EXCEPTION_STACK_OVERFLOW. Its parameters are those of an access violation
abbrev pub is_guard_access : ℕ → Bool
is_guard_access code = code == 0x80000001 || code == 0xc00000fd

-- an exception is an access to memory, by its code on an operating system: Linux's SIGBUS and SIGSEGV,
-- macOS's EXC_BAD_ACCESS, winnt.h's EXCEPTION_ACCESS_VIOLATION and EXCEPTION_IN_PAGE_ERROR, and accesses to guard pages
abbrev pub is_access : Os → ℕ → Bool
is_access Linux code = code == 7 || code == 11
is_access Android code = code == 7 || code == 11
is_access MacOs code = code == 1
is_access Ios code = code == 1
is_access Windows code = (code == 0xc0000005 || code == 0xc0000006) || is_guard_access code
is_access _ code = false

-- an address is the one that Windows gives for a general protection, which x86 and x86-64 have: all bits of
-- a pointer are set. Other processors have the address of each access
abbrev is_protection_address : Cpu → ℕ → Bool
is_protection_address X86 address = address % 2 ^ 32 == 2 ^ 32 - 1
is_protection_address X86_64 address = address == 2 ^ 64 - 1
is_protection_address _ address = false

-- the record of Windows for a general protection, as for an address that isn't canonical: the kernel has no
-- address for it, nor how memory was accessed, and gives a read of the last address. A true read there can't be
-- told from it
abbrev pub is_protection : Cpu → MINIDUMP_EXCEPTION → Bool
is_protection cpu r = (r.exception_code == 0xc0000005 && nat_le 2 r.number_parameters)
    && (slice_index r.exception_information 0 == 0
    && is_protection_address cpu (slice_index r.exception_information 1))

-- how memory was accessed, by the first parameter of an access of Windows
abbrev access_of_number : ℕ → Option Access
access_of_number n = if n == 0 then Some Read
    else (if n == 1 then Some Write else (if n == 8 then Some Execute else None))

-- how memory was accessed, by a record of an operating system on a processor
abbrev access_on : Os → Cpu → MINIDUMP_EXCEPTION → Option Access
access_on Windows cpu r = if (is_access Windows r.exception_code && nat_le 1 r.number_parameters)
    && (not (has_lldb_flag r) && not (is_protection cpu r))
    then access_of_number (slice_index r.exception_information 0) else None
access_on _ cpu r = None

-- the same where the system is known
abbrev pub access_in : Option System → MINIDUMP_EXCEPTION → Option Access
access_in system r = option_and_then (λ s. access_on s.os s.cpu r) system

-- ---- signals

-- the `si_code` of a signal that a process sends: Linux's SI_USER, SI_QUEUE, -1, and SI_TKILL, -6
abbrev pub signal_code : ℕ → Option SignalCode
signal_code n = if n == 0 then Some User
    else (if n == 0xffff_ffff then Some Queue else (if n == 0xffff_fffa then Some Tkill else None))

-- its name in Linux's headers
abbrev pub signal_code_name : SignalCode → List ℕ
signal_code_name User = codes "SI_USER"
signal_code_name Queue = codes "SI_QUEUE"
signal_code_name Tkill = codes "SI_TKILL"

-- the user in an address that holds both ids is its high half, which an address of 32 bits lacks
abbrev pub user_at : PointerWidth → ℕ → Option ℕ
user_at Bits32 address = None
user_at _ address = Some (address / 2 ^ 32)

-- the process that sent a signal and its user, by what stands in the place of a fault's address: in the union of
-- Linux's siginfo that is `si_pid`, and after it `si_uid`
abbrev sender_at : SignalCode → PointerWidth → ℕ → Sender
sender_at code width address = record {
  code = code;
  process = Some (address % 2 ^ 32);
  user = user_at width address;
}

-- the same by the first two parameters, where Crashpad has them for a signal that is no fault
abbrev sender_of_parameters : SignalCode → List ℕ → Sender
sender_of_parameters code parameters = record {
  code = code;
  process = Some (slice_index parameters 0 % 2 ^ 32);
  user = Some (slice_index parameters 1 % 2 ^ 32);
}

-- the first parameter has both ids. Of Linux's SIGPOLL, 29, and SIGSYS, 31, Crashpad has other fields of that union:
-- `si_band` or `si_call_addr`, and then the field after it. The first is as wide as an address: with 64 bits it lies
-- over both ids, with 32 bits over `si_pid` alone
abbrev has_both_ids : PointerWidth → ℕ → Bool
has_both_ids Bits32 signal = false
has_both_ids _ signal = signal == 29 || signal == 31

-- the sender by the address, else by the parameters: unknown where there are neither
abbrev pub sender_by : SignalCode → PointerWidth → MINIDUMP_EXCEPTION → Sender
sender_by code width r =
    if not (r.exception_address == 0) then sender_at code width r.exception_address
    else (if nat_lt r.number_parameters 2 then record { code = code; process = None; user = None }
    else (if has_both_ids width r.exception_code
    then sender_at code width (slice_index r.exception_information 0)
    else sender_of_parameters code r.exception_information))

-- Linux numbers its processes from 1 to 2^22 - 1
abbrev pub is_process : ℕ → Bool
is_process n = nat_le 1 n && nat_lt n (2 ^ 22)

-- a record of Linux or Android can be that of an access near 0, as through a null pointer: SIGBUS or SIGSEGV, at
-- an address that would name a process of root. The address of another fault is that of its instruction
abbrev is_low_access : MINIDUMP_EXCEPTION → Bool
is_low_access r = is_access Linux r.exception_code && is_process r.exception_address

-- Linux numbers its processes below 2^22: 0 is one outside of the receiver's namespace
abbrev pub may_be_sender : ℕ → Bool
may_be_sender n = nat_lt n (2 ^ 22)

-- a process sent a signal. SI_USER is 0. Where the writer of a dump is known to have the `si_code` of each signal, it
-- counts, but not with the number of no process: old kernels of ARM raise faults with 0. Elsewhere it may stand for
-- none: then the sender must be one that can be a process, and the record not one of an access near 0
abbrev pub is_sent : Bool → SignalCode → MINIDUMP_EXCEPTION → Option ℕ → Bool
is_sent true User r process = option_map_or may_be_sender process true
is_sent false User r process = option_map_or is_process process false && not (is_low_access r)
is_sent has_codes _ r process = true

-- the sender, where there is one: the record's code is the signal, which Linux numbers from 1 to 64, and its flags
-- are the `si_code`
abbrev sender_with : Bool → PointerWidth → MINIDUMP_EXCEPTION → Option Sender
sender_with has_codes width r = option_and_then (λ code. let s = sender_by code width r in
    if (nat_le 1 r.exception_code && nat_le r.exception_code 64)
    && is_sent has_codes code r s.process
    then Some s else None)
    (signal_code r.exception_flags)

-- the process that sent the signal of a record on an operating system
abbrev sender_on : Bool → Os → Cpu → MINIDUMP_EXCEPTION → Option Sender
sender_on has_codes Linux cpu r = sender_with has_codes (width_of cpu) r
sender_on has_codes Android cpu r = sender_with has_codes (width_of cpu) r
sender_on has_codes _ cpu r = None

-- the same where the system is known
abbrev pub sender_in : Bool → Option System → MINIDUMP_EXCEPTION → Option Sender
sender_in has_codes system r = option_and_then (λ s. sender_on has_codes s.os s.cpu r) system

-- ---- a process of macOS that no exception of the processor ended

-- the signal that ended it, as SIGABRT by abort(): Crashpad then has the code 0, and as parameters EXC_CRASH, 10, and its
-- codes, the first of which has the signal in bits 24 to 31 (xnu's proc_prepareexit)
abbrev pub ending_signal : Os → MINIDUMP_EXCEPTION → Option ℕ
ending_signal MacOs r = if (r.exception_code == 0 && nat_le 2 r.number_parameters)
    && slice_index r.exception_information 0 == 10
    then Some (slice_index r.exception_information 1 / 2 ^ 24 % 2 ^ 8) else None
ending_signal _ r = None

-- the name of a signal of macOS that ends a process so (sys/signal.h)
abbrev pub mac_signal_name : ℕ → Option (List ℕ)
mac_signal_name n = if n == 3 then Some (codes "SIGQUIT") else (if n == 4 then Some (codes "SIGILL")
    else (if n == 5 then Some (codes "SIGTRAP") else (if n == 6 then Some (codes "SIGABRT")
    else (if n == 7 then Some (codes "SIGEMT") else (if n == 8 then Some (codes "SIGFPE")
    else (if n == 9 then Some (codes "SIGKILL") else (if n == 10 then Some (codes "SIGBUS")
    else (if n == 11 then Some (codes "SIGSEGV")
    else (if n == 12 then Some (codes "SIGSYS") else None)))))))))

-- ---- the address

-- the record of an access to a guard page has the address that was accessed
abbrev has_guard_address : Os → MINIDUMP_EXCEPTION → Bool
has_guard_address Windows r = is_guard_access r.exception_code && nat_le 2 r.number_parameters
has_guard_address _ r = false

-- the address of a crash on an operating system and a processor: the one that was accessed, else that of the record. An
-- access to a guard page has it as an access violation does
abbrev pub address_on : Os → Cpu → MINIDUMP_EXCEPTION → ℕ
address_on os cpu r = crash_address os cpu
    (if has_guard_address os r then record r { exception_code = 0xc0000005 } else r)

-- ---- an address that isn't known

-- the signals of faults, which alone have an `si_addr` (sigaction(2)): SIGILL, SIGTRAP, SIGBUS, SIGFPE and
-- SIGSEGV
abbrev is_fault : ℕ → Bool
is_fault signal = signal == 4 || signal == 5 || signal == 7 || signal == 8 || signal == 11

-- a fault has no `si_addr`, by its `si_code`: SI_KERNEL, 0x80, as for a general protection, by an address that
-- isn't canonical, and for x86's `int3`; SEGV_MTEAERR, 8, and SEGV_CPERR, 10, of SIGSEGV; BUS_ADRALN, 1, of SIGBUS
-- on x86. Elsewhere 0 is aligned, so that this `si_code` is never at 0
abbrev is_without_address : ℕ → ℕ → Bool
is_without_address signal code = code == 0x80
    || (signal == 11 && (code == 8 || code == 10)) || (signal == 7 && code == 1)

-- an address of 0 says nothing: there is no fault, or one without an address
abbrev has_no_fault_address : MINIDUMP_EXCEPTION → Bool
has_no_fault_address r = r.exception_address == 0
    && (not (is_fault r.exception_code) || is_without_address r.exception_code r.exception_flags)

-- a general protection of x86 on macOS, as for an address that isn't canonical: EXC_BAD_ACCESS, 1, with EXC_I386_GPFLT,
-- 13 (mach/i386/exception.h). The kernel gives 0 for its address, and Crashpad has the program counter in its place
abbrev is_mac_protection : MINIDUMP_EXCEPTION → Bool
is_mac_protection r = r.exception_code == 1 && r.exception_flags == 13

-- the second parameter of an access of Windows, which is its address, says nothing: LLDB's text stands over it,
-- or it is that of a general protection
abbrev has_no_access_address : Cpu → MINIDUMP_EXCEPTION → Bool
has_no_access_address cpu r = (has_lldb_flag r
    && (is_access Windows r.exception_code && nat_le 2 r.number_parameters)) || is_protection cpu r

-- the record of an exception on an operating system and a processor has no address of a crash
abbrev pub lacks_address : Os → Cpu → MINIDUMP_EXCEPTION → Bool
lacks_address Linux cpu r = has_no_fault_address r
lacks_address Android cpu r = has_no_fault_address r
lacks_address MacOs cpu r = is_mac_protection r || is_some (ending_signal MacOs r)
lacks_address Windows cpu r = has_no_access_address cpu r
lacks_address _ cpu r = false

-- a code of Linux is that of no fault, so that nothing in its record is an `si_addr`: of another signal, or of a dump
-- without a crash
abbrev pub is_no_fault : Os → ℕ → Bool
is_no_fault Linux signal = not (is_fault signal)
is_no_fault Android signal = not (is_fault signal)
is_no_fault _ signal = false

-- the flags of a record don't say why it was raised: they are LLDB's mark or, but on Windows, 0, which LLDB writes,
-- too
abbrev says_no_cause : Os → MINIDUMP_EXCEPTION → Bool
says_no_cause Windows r = has_lldb_flag r
says_no_cause _ r = r.exception_flags == 0 || has_lldb_flag r

-- the record of an access, or of such a signal, whose address may be that of the instruction: LLDB writes the
-- program counter there, and has such flags
abbrev pub may_be_instruction : Os → MINIDUMP_EXCEPTION → Bool
may_be_instruction os r =
    (is_access os r.exception_code || is_no_fault os r.exception_code) && says_no_cause os r
