-- The last error of a thread.
use Rattle.std.specs.Prelude.{◌≡◌, ℕ, List, Option, Some}
use Rattle.std.specs.Option.{option_and_then}
use Rattle.minidump_memory.specs.Unified.{UnifiedRegions}
use Rattle.minidump_reason.specs.declared.reason.CrashReason.{CrashReason}
use Rattle.minidump_reason.specs.Names.{Lists}
use Rattle.minidump_system.specs.declared.cpu.Cpu.{Cpu}
use Rattle.minidump.specs.Thread.{Thread, error_in, last_error_address, last_with}

-- the last error of the last thread of an id
pub thread_error : (names : Lists) (cpu : Cpu) (id : ℕ) (lists : Option (List Thread)) (memories : Option UnifiedRegions)
    (list : List Thread) (thread : Thread) (memory : UnifiedRegions) (found : Option CrashReason)
    → lists ≡ Some list → last_with id list ≡ Some thread → memories ≡ Some memory → found ≡ error_in names memory (last_error_address cpu thread.raw.teb)
    → found ≡ option_and_then (λ threads. option_and_then (λ t. option_and_then (λ m. error_in names m (last_error_address cpu t.raw.teb)) memories)
    (last_with id threads)) lists
thread_error names cpu id lists memories list thread memory found listed last held is = rw (listed, last, held) is
