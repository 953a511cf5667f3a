-- The heading, and then the regions.
use Rattle.std.proofs.Common.{codes}
use Rattle.minidump_format.proofs.NumberedLemmas.{numbered_list_map}
use Rattle.minidump_format.proofs.Printing.{prints_exit, prints_then}
use Rattle.minidump_memory.specs.Memory.{memory_of}
use Rattle.minidump_memory.specs.MemoryText.{region_text}
use Rattle.minidump_memory.proofs.memory_print.print_memory.Goals as goal

pub returns-in_err-print_item : goal.returns-in_err-print_item
returns-in_err-print_item g c =
    rw (numbered_list_map c.args.heading.now (codes "region") (region_text g.D.Pushed.text c.args.brief) memory_of c.args.regions.now)
    (prints_exit _ _ _ _ _ _ _ c.from_residual.ensures.1 c.in_err-print_item.ensures)

pub returns-then-brief : goal.returns-then-brief
returns-then-brief g c =
    rw (numbered_list_map c.args.heading.now (codes "region") (region_text g.D.Pushed.text c.args.brief) memory_of c.args.regions.now, c.if-brief.true)
    (prints_then _ _ _ _ _ _ _ c.in_ok-print_item.ensures c.print_briefly.ensures)

pub returns : goal.returns
returns g c =
    rw (numbered_list_map c.args.heading.now (codes "region") (region_text g.D.Pushed.text c.args.brief) memory_of c.args.regions.now, c.if-brief.false)
    (prints_then _ _ _ _ _ _ _ c.in_ok-print_item.ensures c.print_with_bytes.ensures)
