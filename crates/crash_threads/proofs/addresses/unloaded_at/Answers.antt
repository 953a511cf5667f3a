-- By the values of the items.
use Rattle.std.proofs.Common.{rules, tests}
use Rattle.minidump.specs.Below.Modules.UnloadedModule.{unloaded_of}
use Rattle.crash_threads.proofs.Lasts.{among_values}
use Rattle.crash_threads.proofs.addresses.unloaded_at.Goals as goal

pub returns : goal.returns
returns c = among_values unloaded_of _ c.unloaded_entries.result.now c.last_index.ensures (λ x b k. search (rules, tests)) c.unloaded_entries.ensures
