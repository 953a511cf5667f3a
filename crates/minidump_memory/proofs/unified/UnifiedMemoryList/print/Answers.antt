-- The regions of the list inside are printed.
use Rattle.minidump_memory.proofs.unified.UnifiedMemoryList.print.Goals as goal

pub returns-in-Memory64 : goal.returns-in-Memory64
returns-in-Memory64 g c = rw (c.in-Memory64.is, ← c.as_slice-in-Memory64.ensures) c.print_memory-in-Memory64.ensures
