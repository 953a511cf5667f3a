-- The context of an ARM processor and its floating-point state, as tables of width and offset
-- (Breakpad's minidump_cpu_arm.h).
use Rattle.std.specs.Prelude.{slice_range}
use Rattle.minidump_bytes.specs.Entries.{entries}
use Rattle.minidump_bytes.specs.Layout.{Layout, number_layout}
use Rattle.minidump_bytes.specs.Number.{number_at}
use Rattle.minidump_format.specs.declared.format.context.arm.FLOATING_SAVE_AREA_ARM.{FLOATING_SAVE_AREA_ARM}
use Rattle.minidump_format.specs.declared.format.context.arm.CONTEXT_ARM.{CONTEXT_ARM}

-- Breakpad's MDFloatingSaveAreaARM
abbrev pub arm_float_save : Layout FLOATING_SAVE_AREA_ARM
arm_float_save = record {
  size = 296;
  value = λ order bytes. record {
    fpscr = number_at order 8 0 bytes;
    regs = entries (number_layout 8) order bytes 8 32;
    extra = entries (number_layout 4) order bytes 264 8;
  };
}

-- Breakpad's MDRawContextARM
abbrev pub context_arm : Layout CONTEXT_ARM
context_arm = record {
  size = 368;
  value = λ order bytes. record {
    context_flags = number_at order 4 0 bytes;
    iregs = entries (number_layout 4) order bytes 4 16;
    cpsr = number_at order 4 68 bytes;
    float_save = arm_float_save.value order (slice_range bytes 72 368);
  };
}
