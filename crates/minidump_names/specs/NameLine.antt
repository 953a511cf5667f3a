-- A line of a text of names: `FAMILY NUMBER NAME`, a comment, or nothing.
use Rattle.std.specs.Prelude.{◌≡◌, ◌≢◌, ◌⊎◌, ◌++◌, ◌==◌, ◌||◌, ◌&&◌, ℕ, Bool, false, List, [], ◌∷◌, codes, length}
use Rattle.std.specs.Prelude.{nat_lt, not, slice_index, Option, Some, None}
use Rattle.std.specs.Prelude.{if◌then◌else◌}
use Rattle.std.specs.List.{list_any}
use Rattle.std.specs.Option.{option_map, option_or}
use Rattle.std.specs.Str.{IsUtf8, bytes_eq}
use Rattle.minidump_bytes.specs.Digits.{IsNumber, number_of_digits}
use Rattle.minidump_bytes.specs.LinuxOsStr.{after_prefix, cut_first, is_white}
use Rattle.minidump_bytes.specs.Text8.{utf8_text}
use Rattle.minidump_bytes.specs.Cut.{IsCut, and_then}
use Rattle.minidump_reason.specs.declared.family.CodeFamily.{CodeFamily}
use Rattle.minidump_reason.specs.declared.family.CodeFamily.TheVariants.{Mac, MacBadAccessKern, MacBadAccessArm}
use Rattle.minidump_reason.specs.declared.family.CodeFamily.TheVariants.{MacBadAccessPpc, MacBadAccessX86}
use Rattle.minidump_reason.specs.declared.family.CodeFamily.TheVariants.{MacBadInstructionArm, MacBadInstructionPpc}
use Rattle.minidump_reason.specs.declared.family.CodeFamily.TheVariants.{MacBadInstructionX86}
use Rattle.minidump_reason.specs.declared.family.CodeFamily.TheVariants.{MacArithmeticArm, MacArithmeticPpc}
use Rattle.minidump_reason.specs.declared.family.CodeFamily.TheVariants.{MacArithmeticX86, MacBreakpointArm}
use Rattle.minidump_reason.specs.declared.family.CodeFamily.TheVariants.{MacBreakpointPpc, MacBreakpointX86}
use Rattle.minidump_reason.specs.declared.family.CodeFamily.TheVariants.{MacSoftware, MacResource, MacResourceCpu}
use Rattle.minidump_reason.specs.declared.family.CodeFamily.TheVariants.{MacResourceWakeups, MacResourceMemory}
use Rattle.minidump_reason.specs.declared.family.CodeFamily.TheVariants.{MacResourceIo, MacResourceThreads}
use Rattle.minidump_reason.specs.declared.family.CodeFamily.TheVariants.{MacGuard, MacGuardMachPort, MacGuardFd}
use Rattle.minidump_reason.specs.declared.family.CodeFamily.TheVariants.{MacGuardVn, MacGuardVirtMemory}
use Rattle.minidump_reason.specs.declared.family.CodeFamily.TheVariants.{MacGuardRejectedSysCall, Linux, LinuxSicode}
use Rattle.minidump_reason.specs.declared.family.CodeFamily.TheVariants.{LinuxSigill, LinuxSigtrap}
use Rattle.minidump_reason.specs.declared.family.CodeFamily.TheVariants.{LinuxSigbus, LinuxSigfpe, LinuxSigsegv}
use Rattle.minidump_reason.specs.declared.family.CodeFamily.TheVariants.{LinuxSigsys, Windows, WinError}
use Rattle.minidump_reason.specs.declared.family.CodeFamily.TheVariants.{WinErrorFacility, NtStatus, FastFail}
use Rattle.minidump_reason.specs.declared.family.CodeFamily.TheVariants.{WindowsAccess, WindowsInPageError}
use Rattle.minidump_names.specs.declared.line.Listing.{Listing as Lent}

-- ---- families

-- the name of a family
abbrev pub family_name : CodeFamily → List ℕ
family_name Mac = codes "Mac"
family_name MacBadAccessKern = codes "MacBadAccessKern"
family_name MacBadAccessArm = codes "MacBadAccessArm"
family_name MacBadAccessPpc = codes "MacBadAccessPpc"
family_name MacBadAccessX86 = codes "MacBadAccessX86"
family_name MacBadInstructionArm = codes "MacBadInstructionArm"
family_name MacBadInstructionPpc = codes "MacBadInstructionPpc"
family_name MacBadInstructionX86 = codes "MacBadInstructionX86"
family_name MacArithmeticArm = codes "MacArithmeticArm"
family_name MacArithmeticPpc = codes "MacArithmeticPpc"
family_name MacArithmeticX86 = codes "MacArithmeticX86"
family_name MacBreakpointArm = codes "MacBreakpointArm"
family_name MacBreakpointPpc = codes "MacBreakpointPpc"
family_name MacBreakpointX86 = codes "MacBreakpointX86"
family_name MacSoftware = codes "MacSoftware"
family_name MacResource = codes "MacResource"
family_name MacResourceCpu = codes "MacResourceCpu"
family_name MacResourceWakeups = codes "MacResourceWakeups"
family_name MacResourceMemory = codes "MacResourceMemory"
family_name MacResourceIo = codes "MacResourceIo"
family_name MacResourceThreads = codes "MacResourceThreads"
family_name MacGuard = codes "MacGuard"
family_name MacGuardMachPort = codes "MacGuardMachPort"
family_name MacGuardFd = codes "MacGuardFd"
family_name MacGuardVn = codes "MacGuardVn"
family_name MacGuardVirtMemory = codes "MacGuardVirtMemory"
family_name MacGuardRejectedSysCall = codes "MacGuardRejectedSysCall"
family_name Linux = codes "Linux"
family_name LinuxSicode = codes "LinuxSicode"
family_name LinuxSigill = codes "LinuxSigill"
family_name LinuxSigtrap = codes "LinuxSigtrap"
family_name LinuxSigbus = codes "LinuxSigbus"
family_name LinuxSigfpe = codes "LinuxSigfpe"
family_name LinuxSigsegv = codes "LinuxSigsegv"
family_name LinuxSigsys = codes "LinuxSigsys"
family_name Windows = codes "Windows"
family_name WinError = codes "WinError"
family_name WinErrorFacility = codes "WinErrorFacility"
family_name NtStatus = codes "NtStatus"
family_name FastFail = codes "FastFail"
family_name WindowsAccess = codes "WindowsAccess"
family_name WindowsInPageError = codes "WindowsInPageError"

-- every family
unfoldable pub families : List CodeFamily
families =
    Mac ∷ MacBadAccessKern ∷ MacBadAccessArm ∷ MacBadAccessPpc ∷ MacBadAccessX86 ∷
    MacBadInstructionArm ∷ MacBadInstructionPpc ∷ MacBadInstructionX86 ∷ MacArithmeticArm ∷
    MacArithmeticPpc ∷ MacArithmeticX86 ∷ MacBreakpointArm ∷ MacBreakpointPpc ∷ MacBreakpointX86 ∷
    MacSoftware ∷ MacResource ∷ MacResourceCpu ∷ MacResourceWakeups ∷ MacResourceMemory ∷
    MacResourceIo ∷ MacResourceThreads ∷ MacGuard ∷ MacGuardMachPort ∷ MacGuardFd ∷ MacGuardVn ∷
    MacGuardVirtMemory ∷ MacGuardRejectedSysCall ∷ Linux ∷ LinuxSicode ∷ LinuxSigill ∷
    LinuxSigtrap ∷ LinuxSigbus ∷ LinuxSigfpe ∷ LinuxSigsegv ∷ LinuxSigsys ∷ Windows ∷ WinError ∷
    WinErrorFacility ∷ NtStatus ∷ FastFail ∷ WindowsAccess ∷ WindowsInPageError ∷ []

-- the first of these families whose name this is
abbrev pub find_family : List CodeFamily → List ℕ → Option CodeFamily
find_family [] text = None
find_family (f ∷ rest) text =
    if bytes_eq text (family_name f) then Some f else find_family rest text

-- the family of a name
unfoldable pub family_in : List ℕ → Option CodeFamily
family_in text = find_family families text

-- ---- a line, as it is read

-- a number below 2^32: in decimal digits, or `0x` and hexadecimal ones
unfoldable pub code_in : List ℕ → Option ℕ
code_in text =
    option_or (number_of_digits 10 32 text)
    (and_then (after_prefix (codes "0x") text) (λ digits. number_of_digits 16 32 digits))

-- a byte that no name of a code has: ASCII white space, and `#`
abbrev pub is_outside : ℕ → Bool
is_outside b = is_white b || b == 35

-- the name of a code: one byte or more that are UTF-8, none of them outside
unfoldable pub name_in : List ℕ → Option (List ℕ)
name_in text =
    if nat_lt 0 (length text) && not (list_any is_outside text) then utf8_text text else None

-- a code with its name, as a line lists it
pub record Listing : Type 0 where
  pub family : CodeFamily
  pub number : ℕ
  pub name : List ℕ

-- the value of a listing that is borrowed
abbrev pub listing_of : Lent → Listing
listing_of l = record { family = l.family; number = l.number; name = l.name.now }

-- the code that a line lists: three parts, cut at the first two spaces
unfoldable pub listing_in : List ℕ → Option Listing
listing_in line =
    and_then (cut_first 32 line) (λ family.
    and_then (cut_first 32 family.1) (λ number.
    and_then (family_in family.0) (λ f.
    and_then (code_in number.0) (λ n.
    and_then (name_in number.1) (λ name.
    Some (record { family = f; number = n; name = name }))))))

-- a line that says nothing: an empty one, or a comment, which begins with `#`
abbrev pub says_nothing : List ℕ → Bool
says_nothing line = length line == 0 || slice_index line 0 == 35

-- what a line lists: nothing, or one code; none where it is not a line of names
unfoldable pub line_in : List ℕ → Option (List Listing)
line_in line = if says_nothing line then Some [] else option_map (λ l. l ∷ []) (listing_in line)

-- ---- the same as a grammar

-- the text writes this number, which is below 2^32: in decimal digits, or after `0x` in hexadecimal
-- ones
abbrev pub IsCode : List ℕ → ℕ → Type 0
IsCode text n =
    IsNumber 10 32 text n
    ⊎ ((digits : List ℕ) × (text ≡ codes "0x" ++ digits) × IsNumber 16 32 digits n)

-- the name of a code: at least one byte, UTF-8, no ASCII white space and no `#`
pub record IsName (text : List ℕ) : Type 0 where
  pub some : text ≢ []
  pub utf8 : IsUtf8 text
  pub inside : list_any is_outside text ≡ false

-- the line of a code: the name of its family, a space, its number, a space, and its name
pub record IsListing (line : List ℕ) (l : Listing) : Type 0 where
  pub number : List ℕ
  pub rest : List ℕ
  pub family_first : IsCut 32 line (family_name l.family) rest
  pub number_second : IsCut 32 rest number l.name
  pub number_is : IsCode number l.number
  pub name_is : IsName l.name

-- a line of names lists these codes: an empty one and a comment list nothing, and every other one
-- lists one code
abbrev pub IsLine : List ℕ → List Listing → Type 0
IsLine [] listings = listings ≡ []
IsLine (b ∷ bs) listings =
    ((b ≡ 35) × (listings ≡ []))
    ⊎ ((b ≢ 35) × (l : Listing) × (listings ≡ l ∷ []) × IsListing (b ∷ bs) l)
