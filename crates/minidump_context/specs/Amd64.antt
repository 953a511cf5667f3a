-- The registers of an x86-64 processor: Microsoft's CONTEXT of x64, by name.
use Rattle.std.specs.Prelude.{ℕ, List, [], ◌∷◌, codes}
use Rattle.minidump_format.specs.declared.format.context.amd64.CONTEXT_AMD64.{CONTEXT_AMD64}

-- the canonical name of each general register and of the instruction pointer, and its offset in
-- the record
unfoldable pub amd64_registers : List (List ℕ × ℕ)
amd64_registers =
    (codes "rax", 120) ∷
    (codes "rdx", 136) ∷
    (codes "rcx", 128) ∷
    (codes "rbx", 144) ∷
    (codes "rsi", 168) ∷
    (codes "rdi", 176) ∷
    (codes "rbp", 160) ∷
    (codes "rsp", 152) ∷
    (codes "r8", 184) ∷
    (codes "r9", 192) ∷
    (codes "r10", 200) ∷
    (codes "r11", 208) ∷
    (codes "r12", 216) ∷
    (codes "r13", 224) ∷
    (codes "r14", 232) ∷
    (codes "r15", 240) ∷
    (codes "rip", 248) ∷
    []

-- their values, in the order of the table
unfoldable pub amd64_values : CONTEXT_AMD64 → List ℕ
amd64_values c =
    c.rax ∷ c.rdx ∷ c.rcx ∷ c.rbx ∷ c.rsi ∷ c.rdi ∷ c.rbp ∷ c.rsp ∷
    c.r8 ∷ c.r9 ∷ c.r10 ∷ c.r11 ∷ c.r12 ∷ c.r13 ∷ c.r14 ∷ c.r15 ∷ c.rip ∷ []

-- the context with the registers of the table at 0
unfoldable pub amd64_rest : CONTEXT_AMD64 → CONTEXT_AMD64
amd64_rest c = record c {
  rax = 0;
  rdx = 0;
  rcx = 0;
  rbx = 0;
  rsi = 0;
  rdi = 0;
  rbp = 0;
  rsp = 0;
  r8 = 0;
  r9 = 0;
  r10 = 0;
  r11 = 0;
  r12 = 0;
  r13 = 0;
  r14 = 0;
  r15 = 0;
  rip = 0;
}
