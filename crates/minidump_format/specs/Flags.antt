-- Sets of bits: Microsoft's flags of the misc information (minidumpapiset.h), and the features of
-- ARM processors that Linux reports (asm/hwcap.h).
use Rattle.std.specs.Prelude.{ℕ, List, [], ◌∷◌, codes, Bool, ◌==◌, bit_and}

-- whether a number has every bit of a flag
abbrev pub has_flag : ℕ → ℕ → Bool
has_flag flags flag = bit_and flags flag == flag

-- Microsoft's MINIDUMP_MISC1_PROCESS_ID to MINIDUMP_MISC5_PROCESS_COOKIE
unfoldable pub misc_info_flags : List (List ℕ × ℕ)
misc_info_flags =
    (codes "MINIDUMP_MISC1_PROCESS_ID", 0x1) ∷
    (codes "MINIDUMP_MISC1_PROCESS_TIMES", 0x2) ∷
    (codes "MINIDUMP_MISC1_PROCESSOR_POWER_INFO", 0x4) ∷
    (codes "MINIDUMP_MISC3_PROCESS_INTEGRITY", 0x10) ∷
    (codes "MINIDUMP_MISC3_PROCESS_EXECUTE_FLAGS", 0x20) ∷
    (codes "MINIDUMP_MISC3_TIMEZONE", 0x40) ∷
    (codes "MINIDUMP_MISC3_PROTECTED_PROCESS", 0x80) ∷
    (codes "MINIDUMP_MISC4_BUILDSTRING", 0x100) ∷
    (codes "MINIDUMP_MISC5_PROCESS_COOKIE", 0x200) ∷
    []

-- Linux's HWCAP_SWP to HWCAP_IDIVT of ARM
unfoldable pub arm_features : List (List ℕ × ℕ)
arm_features =
    (codes "HWCAP_SWP", 0x1) ∷
    (codes "HWCAP_HALF", 0x2) ∷
    (codes "HWCAP_THUMB", 0x4) ∷
    (codes "HWCAP_26BIT", 0x8) ∷
    (codes "HWCAP_FAST_MULT", 0x10) ∷
    (codes "HWCAP_FPA", 0x20) ∷
    (codes "HWCAP_VFP", 0x40) ∷
    (codes "HWCAP_EDSP", 0x80) ∷
    (codes "HWCAP_JAVA", 0x100) ∷
    (codes "HWCAP_IWMMXT", 0x200) ∷
    (codes "HWCAP_CRUNCH", 0x400) ∷
    (codes "HWCAP_THUMBEE", 0x800) ∷
    (codes "HWCAP_NEON", 0x1000) ∷
    (codes "HWCAP_VFPv3", 0x2000) ∷
    (codes "HWCAP_VFPv3D16", 0x4000) ∷
    (codes "HWCAP_TLS", 0x8000) ∷
    (codes "HWCAP_VFPv4", 0x1_0000) ∷
    (codes "HWCAP_IDIVA", 0x2_0000) ∷
    (codes "HWCAP_IDIVT", 0x4_0000) ∷
    []
