-- The writer took all but the texts of the regions that are left.
use Rattle.std.proofs.Common.{codes, drop, false}
use Rattle.std.specs.List.{enumerate_from, flat_map}
use Rattle.minidump_format.proofs.Printing.{PutsAllBut}
use Rattle.minidump_memory.specs.Memory.{memory_of}
use Rattle.minidump_memory.specs.MemoryText.{region_text}
use Rattle.minidump_format.specs.Numbered.{numbered_item, numbered_text}
use Rattle.minidump_memory.proofs.memory_print.print_with_bytes.Given as goal

abbrev pub invariant-loop-index : goal.invariant-loop-index
invariant-loop-index g l =
    PutsAllBut g.W.Write.contents l.fn.f l.f (numbered_text (codes "region") (λ m. region_text g.D.Pushed.text false (memory_of m)) l.regions)
    (flat_map (numbered_item (codes "region") (λ m. region_text g.D.Pushed.text false (memory_of m))) (enumerate_from l.index (drop l.index l.regions)))
