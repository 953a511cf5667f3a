-- By the values of the items.
use Rattle.std.proofs.Common.{◌∙◌, refl, rules, tests}
use Rattle.std.specs.Result.{is_ok}
use Rattle.minidump.specs.Below.Contexts.Context.{map_ok}
use Rattle.minidump.specs.Promise.{exception_stream}
use Rattle.crash_threads.specs.Counting.{has_code}
use Rattle.crash_threads.proofs.Lasts.{among_values}
use Rattle.crash_threads.proofs.cause.counting.Goals as goal

pub returns : goal.returns
returns c =
    let values = map_ok exception_stream.value in
    let coded = among_values values has_code c.args.exceptions.now c.last_index-with_code.ensures (λ x b k. search (rules, tests)) refl in
    let read = among_values values is_ok c.args.exceptions.now c.last_index-read.ensures (λ x b k. search (rules, tests)) refl in
    c.or.ensures ∙ rw (coded, read) refl
