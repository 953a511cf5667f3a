-- The text of the entries is that of the items.
use Rattle.std.specs.Prelude.{codes}
use Rattle.minidump_records.specs.ThreadInfo.{thread_info_text}
use Rattle.minidump_format.proofs.NumberedLemmas.{numbered_list_map}
use Rattle.minidump_records.proofs.thread_info.MinidumpThreadInfoList.print.Goals as goal

pub returns : goal.returns
returns g c =
    let infos = c.args.self.now.thread_infos.items in
    let heading = codes "MinidumpThreadInfoList\n  thread_info_count = " in
    rw (numbered_list_map heading (codes "thread info") thread_info_text (λ i. i.raw) infos, ← c.as_slice.ensures.value) c.print_numbered.ensures
