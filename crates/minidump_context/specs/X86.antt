-- The registers of an x86 processor: Microsoft's CONTEXT of x86, by name.
use Rattle.std.specs.Prelude.{ℕ, List, [], ◌∷◌, codes}
use Rattle.minidump_format.specs.declared.format.context.x86.CONTEXT_X86.{CONTEXT_X86}

-- the canonical name of each register and its offset in the record
unfoldable pub x86_registers : List (List ℕ × ℕ)
x86_registers =
    (codes "eip", 184) ∷
    (codes "esp", 196) ∷
    (codes "ebp", 180) ∷
    (codes "ebx", 164) ∷
    (codes "esi", 160) ∷
    (codes "edi", 156) ∷
    (codes "eax", 176) ∷
    (codes "ecx", 172) ∷
    (codes "edx", 168) ∷
    (codes "eflags", 192) ∷
    []

-- their values, in the order of the table
unfoldable pub x86_values : CONTEXT_X86 → List ℕ
x86_values c = c.eip ∷ c.esp ∷ c.ebp ∷ c.ebx ∷ c.esi ∷ c.edi ∷ c.eax ∷ c.ecx ∷ c.edx ∷ c.eflags ∷ []

-- the context with the registers of the table at 0
unfoldable pub x86_rest : CONTEXT_X86 → CONTEXT_X86
x86_rest c =
    record c {
      eip = 0;
      esp = 0;
      ebp = 0;
      ebx = 0;
      esi = 0;
      edi = 0;
      eax = 0;
      ecx = 0;
      edx = 0;
      eflags = 0;
    }
