-- The line has an error, or what it lists comes last.
use Rattle.std.proofs.Common.{sym}
use Rattle.std.proofs.lemmas.List.{map_push}
use Rattle.std.proofs.lemmas.Result.{err_from_is_err_and}
use Rattle.minidump_names.specs.NameLine.{listing_of}
use Rattle.minidump_names.proofs.TextLemmas.{line_lists, out_of_order, adds_line}
use Rattle.minidump_names.proofs.text.read_line.Goals as goal

pub returns-in_err-in_order : goal.returns-in_err-in_order
returns-in_err-in_order c =
    let next = listing_of c.in-Some.next in
    let is = line_lists c.args.line.now next (sym c.if-says_nothing.ensures) (sym c.in-Some.ensures) in
    let p = err_from_is_err_and c.from_residual.result c.from_residual.ensures.1 in
    rw (p.1, p.2) (out_of_order _ c.args.line.now next c.args.number _ is (rw c.deref.ensures.value at c.in_err-in_order.ensures))

pub returns : goal.returns
returns c =
    let next = listing_of c.in-Some.next in
    let is = line_lists c.args.line.now next (sym c.if-says_nothing.ensures) (sym c.in-Some.ensures) in
    rw (c.in_ok-push.ensures.items, map_push listing_of c.args.listings.now.items c.in-Some.next)
    (adds_line _ c.args.line.now next is c.requires (rw c.deref.ensures.value at c.in_ok-in_order.ensures))
