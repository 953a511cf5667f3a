-- Each field is read at its offset.
use Rattle.minidump_format.proofs.format.context.x86.CONTEXT_X86Record.decode.Goals as goal

-- the record by its fields
pub returns : goal.returns
returns c = λ i. record {
  context_flags = c.u32_at.ensures i;
  dr0 = c.u32_at-2.ensures i;
  dr1 = c.u32_at-3.ensures i;
  dr2 = c.u32_at-4.ensures i;
  dr3 = c.u32_at-5.ensures i;
  dr6 = c.u32_at-6.ensures i;
  dr7 = c.u32_at-7.ensures i;
  float_save = c.decode.ensures i;
  gs = c.u32_at-8.ensures i;
  fs = c.u32_at-9.ensures i;
  es = c.u32_at-10.ensures i;
  ds = c.u32_at-11.ensures i;
  edi = c.u32_at-12.ensures i;
  esi = c.u32_at-13.ensures i;
  ebx = c.u32_at-14.ensures i;
  edx = c.u32_at-15.ensures i;
  ecx = c.u32_at-16.ensures i;
  eax = c.u32_at-17.ensures i;
  ebp = c.u32_at-18.ensures i;
  eip = c.u32_at-19.ensures i;
  cs = c.u32_at-20.ensures i;
  eflags = c.u32_at-21.ensures i;
  esp = c.u32_at-22.ensures i;
  ss = c.u32_at-23.ensures i;
  extended_registers = c.array_at.ensures i;
}
