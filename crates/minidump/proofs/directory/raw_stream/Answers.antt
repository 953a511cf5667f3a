-- What the binary search says.
use Rattle.std.proofs.Common.{rules, Ok, Err}
use Rattle.std.proofs.lemmas.List.Sorted.{answers_always}
use Rattle.minidump.specs.Deciding.{type_of}
use Rattle.minidump.proofs.DirectoryLemmas.{of_that_type, search_finds}
use Rattle.minidump.proofs.directory.raw_stream.Goals as goal

pub returns-in-Ok-clause-means : goal.returns-in-Ok-clause-means
returns-in-Ok-clause-means c =
    let facts = c.in-Ok.ensures in
    let by_type = facts.position type_of (answers_always _ _ _ (λ f a r g called. search rules)) in
    rw (search_finds c.args.entries.now c.requires c.args.stream_type (Ok c.in-Ok.index) facts.bound by_type (of_that_type 0)) (search rules)

pub returns-in-Ok-clause-absent : goal.returns-in-Ok-clause-absent
returns-in-Ok-clause-absent c =
    let facts = c.in-Ok.ensures in
    let by_type = facts.position type_of (answers_always _ _ _ (λ f a r g called. search rules)) in
    rw (search_finds c.args.entries.now c.requires c.args.stream_type (Ok c.in-Ok.index) facts.bound by_type (of_that_type 0)) (λ h. search (rules, h))

pub returns-in-Err-clause-means : goal.returns-in-Err-clause-means
returns-in-Err-clause-means c =
    let facts = c.in-Err.ensures in
    let by_type = facts.position type_of (answers_always _ _ _ (λ f a r g called. search rules)) in
    rw (search_finds c.args.entries.now c.requires c.args.stream_type (Err c.in-Err.field-0) facts.bound by_type) (search rules)

pub returns-in-Err-clause-counted : goal.returns-in-Err-clause-counted
returns-in-Err-clause-counted c =
    let facts = c.in-Err.ensures in
    let by_type = facts.position type_of (answers_always _ _ _ (λ f a r g called. search rules)) in
    rw (search_finds c.args.entries.now c.requires c.args.stream_type (Err c.in-Err.field-0) facts.bound by_type) (λ h. search (rules, h))
