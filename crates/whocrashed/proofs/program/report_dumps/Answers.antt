-- The dumps before a failure of the output are the first of those that are asked for.
use Rattle.std.proofs.Common.{◌≡◌, map}
use Rattle.std.proofs.lemmas.List.{take-map}
use Rattle.whocrashed_inputs.specs.Input.{asked_of}
use Rattle.whocrashed.specs.Run.{MayHave, dumps_by}
use Rattle.whocrashed.proofs.ReportLemmas.{of_first}
use Rattle.whocrashed.proofs.program.report_dumps.Goals as goal

pub returns-clause-before : goal.returns-clause-before
returns-clause-before g c =
    let same : map asked_of c.as_slice-2.result.now ≡ dumps_by c.args.reporter.now.options.now c.in_ok-list.list.items =
    cc (c.as_slice-2.ensures.value, c.in_ok-dumps.ensures, c.as_slice.ensures.value, c.deref.ensures.value) in
    let before = c.in-Err.ensures.before in
    λ _. (
      before.0,
      before.1,
      (
        c.in_ok-list.list.items,
        c.list_of.new.worst,
        c.in_ok-list.ensures.list,
        of_first (MayHave (g.S.ReadDumps.reads c.args.source.now) c.args.reporter.now.names.now c.args.reporter.now.options.now)
            c.list_of.new.worst before.0 _ _ _ before.1 same (rw take-map before.2),
      ),
    )
