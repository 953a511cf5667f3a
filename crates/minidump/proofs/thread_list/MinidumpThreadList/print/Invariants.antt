-- The writer took all but the texts of the threads that are left.
use Rattle.std.proofs.Common.{codes, drop, map}
use Rattle.std.specs.List.{enumerate_from, flat_map}
use Rattle.std.specs.Option.{option_copied, option_map}
use Rattle.minidump_format.proofs.Printing.{PutsAllBut}
use Rattle.minidump_format.specs.Numbered.{numbered_item}
use Rattle.minidump_memory.specs.Unified.{unified_list}
use Rattle.minidump_system.specs.SystemInfo.{system_info_of}
use Rattle.minidump.specs.Thread.{thread_of}
use Rattle.minidump.specs.ThreadText.{thread_list_text, thread_text}
use Rattle.minidump.proofs.thread_list.MinidumpThreadList.print.Given as goal

abbrev pub invariant-loop-index : goal.invariant-loop-index
invariant-loop-index g l =
    let memory = option_map unified_list (option_copied l.memory) in
    let system = option_map system_info_of (option_copied l.system) in
    PutsAllBut g.W.Write.contents l.fn.f l.f (thread_list_text memory system l.brief (map thread_of l.threads))
    (flat_map (numbered_item (codes "thread") (thread_text memory system l.brief)) (enumerate_from l.index (map thread_of (drop l.index l.threads))))
