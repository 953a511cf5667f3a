-- The context of an x86-64 processor, as a table of width and offset (winnt.h, Breakpad's
-- minidump_cpu_amd64.h).
use Rattle.minidump_bytes.specs.Entries.{entries}
use Rattle.minidump_bytes.specs.Layout.{Layout, byte_layout, number_layout}
use Rattle.minidump_bytes.specs.Number.{number_at}
use Rattle.minidump_format.specs.declared.format.context.amd64.CONTEXT_AMD64.{CONTEXT_AMD64}

-- Microsoft's CONTEXT of x64, Breakpad's MDRawContextAMD64
abbrev pub context_amd64 : Layout CONTEXT_AMD64
context_amd64 = record {
  size = 1232;
  value = λ order bytes. record {
    p1_home = number_at order 8 0 bytes;
    p2_home = number_at order 8 8 bytes;
    p3_home = number_at order 8 16 bytes;
    p4_home = number_at order 8 24 bytes;
    p5_home = number_at order 8 32 bytes;
    p6_home = number_at order 8 40 bytes;
    context_flags = number_at order 4 48 bytes;
    mx_csr = number_at order 4 52 bytes;
    cs = number_at order 2 56 bytes;
    ds = number_at order 2 58 bytes;
    es = number_at order 2 60 bytes;
    fs = number_at order 2 62 bytes;
    gs = number_at order 2 64 bytes;
    ss = number_at order 2 66 bytes;
    eflags = number_at order 4 68 bytes;
    dr0 = number_at order 8 72 bytes;
    dr1 = number_at order 8 80 bytes;
    dr2 = number_at order 8 88 bytes;
    dr3 = number_at order 8 96 bytes;
    dr6 = number_at order 8 104 bytes;
    dr7 = number_at order 8 112 bytes;
    rax = number_at order 8 120 bytes;
    rcx = number_at order 8 128 bytes;
    rdx = number_at order 8 136 bytes;
    rbx = number_at order 8 144 bytes;
    rsp = number_at order 8 152 bytes;
    rbp = number_at order 8 160 bytes;
    rsi = number_at order 8 168 bytes;
    rdi = number_at order 8 176 bytes;
    r8 = number_at order 8 184 bytes;
    r9 = number_at order 8 192 bytes;
    r10 = number_at order 8 200 bytes;
    r11 = number_at order 8 208 bytes;
    r12 = number_at order 8 216 bytes;
    r13 = number_at order 8 224 bytes;
    r14 = number_at order 8 232 bytes;
    r15 = number_at order 8 240 bytes;
    rip = number_at order 8 248 bytes;
    unused1 = entries byte_layout order bytes 256 512;
    unused2 = entries (number_layout 16) order bytes 768 26;
    unused3 = entries (number_layout 8) order bytes 1184 6;
  };
}
