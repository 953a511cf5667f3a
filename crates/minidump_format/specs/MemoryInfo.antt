-- What is known of a region of memory: Microsoft's MINIDUMP_MEMORY_INFO of minidumpapiset.h, and
-- its sets of bits, the PAGE_ and MEM_ numbers of winnt.h.
use Rattle.std.specs.Prelude.{ℕ, List, [], ◌∷◌, codes}
use Rattle.minidump_bytes.specs.Layout.{Layout}
use Rattle.minidump_bytes.specs.Number.{number_at}
use Rattle.minidump_format.specs.declared.format.memory_info.MINIDUMP_MEMORY_INFO.{MINIDUMP_MEMORY_INFO}

-- Microsoft's MINIDUMP_MEMORY_INFO
abbrev pub memory_info : Layout MINIDUMP_MEMORY_INFO
memory_info = record {
  size = 48;
  value = λ order bytes. record {
    base_address = number_at order 8 0 bytes;
    allocation_base = number_at order 8 8 bytes;
    allocation_protection = number_at order 4 16 bytes;
    unused1 = number_at order 4 20 bytes;
    region_size = number_at order 8 24 bytes;
    state = number_at order 4 32 bytes;
    protection = number_at order 4 36 bytes;
    _type = number_at order 4 40 bytes;
    unused2 = number_at order 4 44 bytes;
  };
}

-- winnt.h's PAGE_NOACCESS to PAGE_WRITECOMBINE
unfoldable pub memory_protection : List (List ℕ × ℕ)
memory_protection =
    (codes "PAGE_NOACCESS", 0x1) ∷
    (codes "PAGE_READONLY", 0x2) ∷
    (codes "PAGE_READWRITE", 0x4) ∷
    (codes "PAGE_WRITECOPY", 0x8) ∷
    (codes "PAGE_EXECUTE", 0x10) ∷
    (codes "PAGE_EXECUTE_READ", 0x20) ∷
    (codes "PAGE_EXECUTE_READWRITE", 0x40) ∷
    (codes "PAGE_EXECUTE_WRITECOPY", 0x80) ∷
    (codes "PAGE_GUARD", 0x100) ∷
    (codes "PAGE_NOCACHE", 0x200) ∷
    (codes "PAGE_WRITECOMBINE", 0x400) ∷
    []

-- winnt.h's MEM_COMMIT, MEM_RESERVE and MEM_FREE
unfoldable pub memory_state : List (List ℕ × ℕ)
memory_state =
    (codes "MEM_COMMIT", 0x1000) ∷
    (codes "MEM_RESERVE", 0x2000) ∷
    (codes "MEM_FREE", 0x1_0000) ∷
    []

-- winnt.h's MEM_PRIVATE, MEM_MAPPED and MEM_IMAGE
unfoldable pub memory_type : List (List ℕ × ℕ)
memory_type =
    (codes "MEM_PRIVATE", 0x2_0000) ∷
    (codes "MEM_MAPPED", 0x4_0000) ∷
    (codes "MEM_IMAGE", 0x100_0000) ∷
    []
