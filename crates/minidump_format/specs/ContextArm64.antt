-- The contexts of an ARM64 processor, as tables of width and offset (winnt.h, Breakpad's
-- minidump_cpu_arm64.h).
use Rattle.minidump_bytes.specs.Entries.{entries}
use Rattle.minidump_bytes.specs.Layout.{Layout, number_layout}
use Rattle.minidump_bytes.specs.Number.{number_at}
use Rattle.minidump_format.specs.declared.format.context.arm64.CONTEXT_ARM64.{CONTEXT_ARM64}
use Rattle.minidump_format.specs.declared.format.context.arm64.CONTEXT_ARM64_OLD.{CONTEXT_ARM64_OLD}

-- Microsoft's ARM64_NT_CONTEXT, Breakpad's MDRawContextARM64
abbrev pub context_arm64 : Layout CONTEXT_ARM64
context_arm64 = record {
  size = 912;
  value = λ order bytes. record {
    context_flags = number_at order 4 0 bytes;
    cpsr = number_at order 4 4 bytes;
    iregs = entries (number_layout 8) order bytes 8 31;
    sp = number_at order 8 256 bytes;
    pc = number_at order 8 264 bytes;
    float_regs = entries (number_layout 16) order bytes 272 32;
    fpcr = number_at order 4 784 bytes;
    fpsr = number_at order 4 788 bytes;
    bcr = entries (number_layout 4) order bytes 792 8;
    bvr = entries (number_layout 8) order bytes 824 8;
    wcr = entries (number_layout 4) order bytes 888 2;
    wvr = entries (number_layout 8) order bytes 896 2;
  };
}

-- Breakpad's MDRawContextARM64_Old
abbrev pub context_arm64_old : Layout CONTEXT_ARM64_OLD
context_arm64_old = record {
  size = 796;
  value = λ order bytes. record {
    context_flags = number_at order 8 0 bytes;
    iregs = entries (number_layout 8) order bytes 8 31;
    sp = number_at order 8 256 bytes;
    pc = number_at order 8 264 bytes;
    cpsr = number_at order 4 272 bytes;
    fpsr = number_at order 4 276 bytes;
    fpcr = number_at order 4 280 bytes;
    float_regs = entries (number_layout 16) order bytes 284 32;
  };
}
