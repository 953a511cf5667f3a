-- What the binary search says.
use Rattle.std.proofs.Common.{rules, Ok, Err}
use Rattle.std.proofs.lemmas.List.Sorted.{answers_always}
use Rattle.minidump_reason.proofs.NamesLemmas.{search_result, name_at}
use Rattle.minidump_reason.proofs.names.entry_in.Goals as goal

pub returns-in-Ok : goal.returns-in-Ok
returns-in-Ok c =
    let facts = c.in-Ok.ensures in
    let by_number = facts.position (λ e. e.0) (answers_always _ _ _ (λ f a r g called. search rules)) in
    let found = search_result c.args.entries.now c.requires c.args.code (Ok c.in-Ok.index) facts.bound by_number in
    (found.has _, name_at c.args.entries.now c.in-Ok.index c.args.code _ c.requires found.within (found.has _))

pub returns-in-Err : goal.returns-in-Err
returns-in-Err c =
    let facts = c.in-Err.ensures in
    let by_number = facts.position (λ e. e.0) (answers_always _ _ _ (λ f a r g called. search rules)) in
    search_result c.args.entries.now c.requires c.args.code (Err c.in-Err.field-0) facts.bound by_number
