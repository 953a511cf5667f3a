-- By the values of the items.
use Rattle.std.proofs.Common.{refl, rules, tests}
use Rattle.crash_threads.specs.Threads.{thread_value}
use Rattle.crash_threads.proofs.Lasts.{among_values}
use Rattle.crash_threads.proofs.threads.crashing_at.Goals as goal

pub returns : goal.returns
returns c = rw c.in_ok-id.was (among_values thread_value _ c.args.threads.now c.last_index.ensures (λ x b k. search (rules, tests)) refl)
