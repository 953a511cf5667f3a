-- The context of an x86 processor and its floating-point state, as tables of width and offset
-- (winnt.h, Breakpad's minidump_cpu_x86.h).
use Rattle.std.specs.Prelude.{slice_range}
use Rattle.minidump_bytes.specs.Entries.{entries}
use Rattle.minidump_bytes.specs.Layout.{Layout, byte_layout}
use Rattle.minidump_bytes.specs.Number.{number_at}
use Rattle.minidump_format.specs.declared.format.context.x86.FLOATING_SAVE_AREA_X86.{FLOATING_SAVE_AREA_X86}
use Rattle.minidump_format.specs.declared.format.context.x86.CONTEXT_X86.{CONTEXT_X86}

-- Microsoft's FLOATING_SAVE_AREA
abbrev pub x86_float_save : Layout FLOATING_SAVE_AREA_X86
x86_float_save = record {
  size = 112;
  value = λ order bytes. record {
    control_word = number_at order 4 0 bytes;
    status_word = number_at order 4 4 bytes;
    tag_word = number_at order 4 8 bytes;
    error_offset = number_at order 4 12 bytes;
    error_selector = number_at order 4 16 bytes;
    data_offset = number_at order 4 20 bytes;
    data_selector = number_at order 4 24 bytes;
    register_area = entries byte_layout order bytes 28 80;
    cr0_npx_state = number_at order 4 108 bytes;
  };
}

-- Microsoft's CONTEXT of x86, Breakpad's MDRawContextX86
abbrev pub context_x86 : Layout CONTEXT_X86
context_x86 = record {
  size = 716;
  value = λ order bytes. record {
    context_flags = number_at order 4 0 bytes;
    dr0 = number_at order 4 4 bytes;
    dr1 = number_at order 4 8 bytes;
    dr2 = number_at order 4 12 bytes;
    dr3 = number_at order 4 16 bytes;
    dr6 = number_at order 4 20 bytes;
    dr7 = number_at order 4 24 bytes;
    float_save = x86_float_save.value order (slice_range bytes 28 140);
    gs = number_at order 4 140 bytes;
    fs = number_at order 4 144 bytes;
    es = number_at order 4 148 bytes;
    ds = number_at order 4 152 bytes;
    edi = number_at order 4 156 bytes;
    esi = number_at order 4 160 bytes;
    ebx = number_at order 4 164 bytes;
    edx = number_at order 4 168 bytes;
    ecx = number_at order 4 172 bytes;
    eax = number_at order 4 176 bytes;
    ebp = number_at order 4 180 bytes;
    eip = number_at order 4 184 bytes;
    cs = number_at order 4 188 bytes;
    eflags = number_at order 4 192 bytes;
    esp = number_at order 4 196 bytes;
    ss = number_at order 4 200 bytes;
    extended_registers = entries byte_layout order bytes 204 512;
  };
}
