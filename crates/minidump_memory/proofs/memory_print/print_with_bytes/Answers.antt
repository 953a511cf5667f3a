-- What went out, and what comes.
use Rattle.std.proofs.Common.{Err, append_assoc, codes, false, subst}
use Rattle.std.proofs.lemmas.List.{drop_all, drop_more}
use Rattle.minidump_bytes.specs.Told.{PutsAll}
use Rattle.minidump_format.proofs.Printing.{but_all, but_exit, but_next, but_none}
use Rattle.minidump_format.specs.Numbered.{index_line}
use Rattle.minidump_format.specs.Print.{Prints}
use Rattle.minidump_memory.specs.MemoryText.{bytes_part}
use Rattle.minidump_memory.proofs.memory_print.print_with_bytes.Goals as goal

pub loop-index-init : goal.loop-index-init
loop-index-init g c = but_all _ _ _ c.requires

pub loop-index-preserved : goal.loop-index-preserved
loop-index-preserved g c =
    let region = c.index-regions-index.result in
    let split = drop_more c.args.regions.now c.loop-index.index region c.loop-index-test.true in
    let before = rw (split, ← c.index-regions-index.is) at c.loop-index.invariant in
    let line = append_assoc (index_line (codes "region") c.loop-index.index) (g.D.Pushed.text region.desc) (bytes_part false region.bytes.now) in
    but_next _ _ _ _ _ _ _ before (subst (PutsAll g.W.Write.contents _ _) line c.in_ok-print_region.ensures)

pub returns-in_err-print_region : goal.returns-in_err-print_region
returns-in_err-print_region g c =
    let region = c.index-regions-index.result in
    let split = drop_more c.args.regions.now c.loop-index.index region c.loop-index-test.true in
    let before = rw (split, ← c.index-regions-index.is) at c.loop-index.invariant in
    let line = append_assoc (index_line (codes "region") c.loop-index.index) (g.D.Pushed.text region.desc) (bytes_part false region.bytes.now) in
    but_exit _ _ _ _ _ _ _ _ _ before c.from_residual.ensures.1
    (subst (λ t. Prints g.W.Write.contents c.loop-index.f c.print_region.new.f t (Err c.in_err-print_region.field-0.0)) line c.in_err-print_region.ensures)

pub returns : goal.returns
returns g c =
    let none = drop_all c.loop-index.index c.args.regions.now c.loop-index-test.false in
    but_none _ _ _ _ (rw none at c.loop-index.invariant)
