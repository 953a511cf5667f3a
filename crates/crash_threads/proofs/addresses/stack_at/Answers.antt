-- By the values of the items.
use Rattle.std.proofs.Common.{rules, tests}
use Rattle.minidump.specs.Thread.{thread_of}
use Rattle.crash_threads.proofs.Lasts.{among_values}
use Rattle.crash_threads.proofs.addresses.stack_at.Goals as goal

pub returns : goal.returns
returns c = among_values thread_of _ c.entries_of.result.now c.last_index.ensures (λ x b k. search (rules, tests)) c.entries_of.ensures
