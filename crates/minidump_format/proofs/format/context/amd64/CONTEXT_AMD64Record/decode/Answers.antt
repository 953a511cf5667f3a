-- Each field is read at its offset.
use Rattle.minidump_format.proofs.format.context.amd64.CONTEXT_AMD64Record.decode.Goals as goal

-- the record by its fields
pub returns : goal.returns
returns c = λ i. record {
  p1_home = c.u64_at.ensures i;
  p2_home = c.u64_at-2.ensures i;
  p3_home = c.u64_at-3.ensures i;
  p4_home = c.u64_at-4.ensures i;
  p5_home = c.u64_at-5.ensures i;
  p6_home = c.u64_at-6.ensures i;
  context_flags = c.u32_at.ensures i;
  mx_csr = c.u32_at-2.ensures i;
  cs = c.u16_at.ensures i;
  ds = c.u16_at-2.ensures i;
  es = c.u16_at-3.ensures i;
  fs = c.u16_at-4.ensures i;
  gs = c.u16_at-5.ensures i;
  ss = c.u16_at-6.ensures i;
  eflags = c.u32_at-3.ensures i;
  dr0 = c.u64_at-7.ensures i;
  dr1 = c.u64_at-8.ensures i;
  dr2 = c.u64_at-9.ensures i;
  dr3 = c.u64_at-10.ensures i;
  dr6 = c.u64_at-11.ensures i;
  dr7 = c.u64_at-12.ensures i;
  rax = c.u64_at-13.ensures i;
  rcx = c.u64_at-14.ensures i;
  rdx = c.u64_at-15.ensures i;
  rbx = c.u64_at-16.ensures i;
  rsp = c.u64_at-17.ensures i;
  rbp = c.u64_at-18.ensures i;
  rsi = c.u64_at-19.ensures i;
  rdi = c.u64_at-20.ensures i;
  r8 = c.u64_at-21.ensures i;
  r9 = c.u64_at-22.ensures i;
  r10 = c.u64_at-23.ensures i;
  r11 = c.u64_at-24.ensures i;
  r12 = c.u64_at-25.ensures i;
  r13 = c.u64_at-26.ensures i;
  r14 = c.u64_at-27.ensures i;
  r15 = c.u64_at-28.ensures i;
  rip = c.u64_at-29.ensures i;
  unused1 = c.array_at.ensures i;
  unused2 = c.array_at-2.ensures i;
  unused3 = c.array_at-3.ensures i;
}
