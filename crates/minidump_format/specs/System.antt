-- The system information: Microsoft's MINIDUMP_SYSTEM_INFO and Breakpad's MDCPUInformation, as
-- tables of width and offset, and the numbers of architectures and platforms.
use Rattle.std.specs.Prelude.{ℕ, [], ◌∷◌, slice_index, find, ◌==◌, Option}
use Rattle.minidump_bytes.specs.Layout.{Layout, byte_layout, number_layout}
use Rattle.minidump_bytes.specs.Number.{number_at}
use Rattle.minidump_bytes.specs.Entries.{entries}
use Rattle.minidump_format.specs.declared.format.system.MINIDUMP_SYSTEM_INFO.{MINIDUMP_SYSTEM_INFO}
use Rattle.minidump_format.specs.declared.format.system.X86CpuInfo.{X86CpuInfo}
use Rattle.minidump_format.specs.declared.format.system.ARMCpuInfo.{ARMCpuInfo}
use Rattle.minidump_format.specs.declared.format.system.ProcessorArchitecture.{ProcessorArchitecture}
use Rattle.minidump_format.specs.declared.format.system.PlatformId.{PlatformId}
use Rattle.minidump_format.specs.declared.format.system.ProcessorArchitecture.TheVariants.{
  PROCESSOR_ARCHITECTURE_INTEL,
  PROCESSOR_ARCHITECTURE_MIPS,
  PROCESSOR_ARCHITECTURE_PPC,
  PROCESSOR_ARCHITECTURE_ARM,
  PROCESSOR_ARCHITECTURE_AMD64,
  PROCESSOR_ARCHITECTURE_IA32_ON_WIN64,
  PROCESSOR_ARCHITECTURE_ARM64,
  PROCESSOR_ARCHITECTURE_SPARC,
  PROCESSOR_ARCHITECTURE_PPC64,
  PROCESSOR_ARCHITECTURE_ARM64_OLD,
  PROCESSOR_ARCHITECTURE_MIPS64,
}
use Rattle.minidump_format.specs.declared.format.system.PlatformId.TheVariants.{VER_PLATFORM_WIN32_WINDOWS}
use Rattle.minidump_format.specs.declared.format.system.PlatformId.TheVariants.{VER_PLATFORM_WIN32_NT}
use Rattle.minidump_format.specs.declared.format.system.PlatformId.TheVariants.{MacOs, Ios, Linux}
use Rattle.minidump_format.specs.declared.format.system.PlatformId.TheVariants.{Solaris, Android}
use Rattle.minidump_format.specs.declared.format.system.PlatformId.TheVariants.{Ps3, NaCl}

-- Microsoft's MINIDUMP_SYSTEM_INFO
abbrev pub system_info : Layout MINIDUMP_SYSTEM_INFO
system_info = record {
  size = 56;
  value = λ order bytes. record {
    processor_architecture = number_at order 2 0 bytes;
    processor_level = number_at order 2 2 bytes;
    processor_revision = number_at order 2 4 bytes;
    number_of_processors = slice_index bytes 6;
    product_type = slice_index bytes 7;
    major_version = number_at order 4 8 bytes;
    minor_version = number_at order 4 12 bytes;
    build_number = number_at order 4 16 bytes;
    platform_id = number_at order 4 20 bytes;
    csd_version_rva = number_at order 4 24 bytes;
    suite_mask = number_at order 2 28 bytes;
    reserved = number_at order 2 30 bytes;
    cpu = entries byte_layout order bytes 32 24;
  };
}

-- Microsoft's X86CpuInfo of CPU_INFORMATION
abbrev pub x86_cpu_info : Layout X86CpuInfo
x86_cpu_info = record {
  size = 24;
  value = λ order bytes. record {
    vendor_id = entries (number_layout 4) order bytes 0 3;
    unused1 = entries (number_layout 4) order bytes 12 3;
  };
}

-- Breakpad's arm_cpu_info of MDCPUInformation
abbrev pub arm_cpu_info : Layout ARMCpuInfo
arm_cpu_info = record {
  size = 8;
  value = λ order bytes. record {
    cpuid = number_at order 4 0 bytes;
    elf_hwcaps = number_at order 4 4 bytes;
  };
}

-- the number of each architecture
abbrev pub architecture_number : ProcessorArchitecture → ℕ
architecture_number PROCESSOR_ARCHITECTURE_INTEL = 0
architecture_number PROCESSOR_ARCHITECTURE_MIPS = 1
architecture_number PROCESSOR_ARCHITECTURE_PPC = 3
architecture_number PROCESSOR_ARCHITECTURE_ARM = 5
architecture_number PROCESSOR_ARCHITECTURE_AMD64 = 9
architecture_number PROCESSOR_ARCHITECTURE_IA32_ON_WIN64 = 10
architecture_number PROCESSOR_ARCHITECTURE_ARM64 = 12
architecture_number PROCESSOR_ARCHITECTURE_SPARC = 0x8001
architecture_number PROCESSOR_ARCHITECTURE_PPC64 = 0x8002
architecture_number PROCESSOR_ARCHITECTURE_ARM64_OLD = 0x8003
architecture_number PROCESSOR_ARCHITECTURE_MIPS64 = 0x8004

-- the architecture that has a number, which is no other's
abbrev pub architecture_of : ℕ → Option ProcessorArchitecture
architecture_of n = find (λ a. architecture_number a == n)
    (PROCESSOR_ARCHITECTURE_INTEL ∷ PROCESSOR_ARCHITECTURE_MIPS ∷ PROCESSOR_ARCHITECTURE_PPC
    ∷ PROCESSOR_ARCHITECTURE_ARM ∷ PROCESSOR_ARCHITECTURE_AMD64
    ∷ PROCESSOR_ARCHITECTURE_IA32_ON_WIN64 ∷ PROCESSOR_ARCHITECTURE_ARM64
    ∷ PROCESSOR_ARCHITECTURE_SPARC ∷ PROCESSOR_ARCHITECTURE_PPC64 ∷ PROCESSOR_ARCHITECTURE_ARM64_OLD
    ∷ PROCESSOR_ARCHITECTURE_MIPS64 ∷ [])

-- the number of each platform
abbrev pub platform_number : PlatformId → ℕ
platform_number VER_PLATFORM_WIN32_WINDOWS = 1
platform_number VER_PLATFORM_WIN32_NT = 2
platform_number MacOs = 0x8101
platform_number Ios = 0x8102
platform_number Linux = 0x8201
platform_number Solaris = 0x8202
platform_number Android = 0x8203
platform_number Ps3 = 0x8204
platform_number NaCl = 0x8205

-- the platform that has a number, which is no other's
abbrev pub platform_of : ℕ → Option PlatformId
platform_of n = find (λ p. platform_number p == n) (VER_PLATFORM_WIN32_WINDOWS
    ∷ VER_PLATFORM_WIN32_NT ∷ MacOs ∷ Ios ∷ Linux ∷ Solaris ∷ Android ∷ Ps3
    ∷ NaCl ∷ [])
