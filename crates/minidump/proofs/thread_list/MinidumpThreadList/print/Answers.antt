-- What went out, and what comes.
use Rattle.std.proofs.Common.{codes}
use Rattle.std.proofs.lemmas.List.{length-map}
use Rattle.std.specs.Option.{option_copied, option_map}
use Rattle.minidump_format.proofs.Printing.{but_first, prints_exit}
use Rattle.minidump_format.specs.Numbered.{numbered_item}
use Rattle.minidump_memory.specs.Unified.{unified_list}
use Rattle.minidump_system.specs.SystemInfo.{system_info_of}
use Rattle.minidump.specs.Thread.{thread_of}
use Rattle.minidump.specs.ThreadText.{thread_text}
use Rattle.minidump.proofs.NumberedLemmas.{numbered_failed, numbered_next}
use Rattle.minidump.proofs.thread_list.MinidumpThreadList.print.Goals as goal

pub returns-in_err-print_item : goal.returns-in_err-print_item
returns-in_err-print_item g c =
    rw (length-map c.args.self.now.threads.items thread_of) (prints_exit _ _ _ _ _ _ _ c.from_residual.ensures.1
    (rw (c.as_slice-threads.ensures.value) at c.in_err-print_item.ensures))

pub loop-index-init : goal.loop-index-init
loop-index-init g c = rw (length-map c.as_slice-threads.result.now thread_of) (but_first _ _ _ _ _ c.in_ok-print_item.ensures)

pub loop-index-preserved : goal.loop-index-preserved
loop-index-preserved g c =
    let memory = option_map unified_list (option_copied c.args.memory) in
    let system = option_map system_info_of (option_copied c.args.system) in
    numbered_next (numbered_item (codes "thread") (thread_text memory system c.args.brief)) thread_of c.as_slice-threads.result.now c.loop-index.index g.W.Write.contents _ _ _ _ _
    c.loop-index-test.true c.loop-index.invariant c.in_ok-print_numbered.ensures

pub returns-in_err-print_numbered : goal.returns-in_err-print_numbered
returns-in_err-print_numbered g c =
    let memory = option_map unified_list (option_copied c.args.memory) in
    let system = option_map system_info_of (option_copied c.args.system) in
    rw (← c.as_slice-threads.ensures.value) (numbered_failed (numbered_item (codes "thread") (thread_text memory system c.args.brief)) thread_of c.as_slice-threads.result.now c.loop-index.index
    g.W.Write.contents _ _ _ _ _ _ _ c.loop-index-test.true c.loop-index.invariant c.from_residual-in_err-print_numbered.ensures.1 c.in_err-print_numbered.ensures)
