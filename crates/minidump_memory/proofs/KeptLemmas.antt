-- The information of entries: no entry is an error.
use Rattle.std.proofs.Common.{◌≡◌, List, Ok, Some, map}
use Rattle.minidump_format.specs.declared.format.memory_info.MINIDUMP_MEMORY_INFO.{MINIDUMP_MEMORY_INFO}
use Rattle.minidump_system.specs.Reads.{all_kept}
use Rattle.minidump_system.proofs.KeptLemmas.{kept_mapped}
use Rattle.minidump_memory.specs.MemoryInfo.{info_in}

pub kept_infos : (raws : List MINIDUMP_MEMORY_INFO) → all_kept (λ raw. Ok (Some (info_in raw))) raws ≡ Ok (map info_in raws)
kept_infos raws = kept_mapped info_in raws
