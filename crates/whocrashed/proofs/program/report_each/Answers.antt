-- One report more.
use Rattle.std.proofs.Common.{◌++◌, arith}
use Rattle.whocrashed_inputs.specs.Input.{asked_of}
use Rattle.whocrashed.specs.Run.{MayHave}
use Rattle.whocrashed.proofs.OutputLemmas.{gains_nothing, writes_then}
use Rattle.whocrashed.proofs.ReportLemmas.{begun, with_next}
use Rattle.whocrashed.proofs.program.report_each.Goals as goal

pub loop-i-init : goal.loop-i-init
loop-i-init g c = record {
  bound = c.requires;
  reports = gains_nothing g.O.Write.contents _ _
      (begun (MayHave (g.S.ReadDumps.reads c.args.source.now) c.args.reporter.now.names.now c.args.reporter.now.options.now) c.args.worst.now);
}

pub loop-i-preserved : goal.loop-i-preserved
loop-i-preserved g c =
    let within = c.in_ok-status.ensures.bound in
    let before = c.loop-i.invariant.reports in
    let one = c.in_ok-status.ensures.reported in
    record {
      bound = omega arith;
      reports = (
        before.0 ++ one.0,
        with_next (MayHave (g.S.ReadDumps.reads c.args.source.now) c.args.reporter.now.names.now c.args.reporter.now.options.now) c.args.worst.now
            asked_of c.args.dumps.now c.loop-i.i _ _ _ _ before.0 one.0 c.loop-i-test.true one.1 before.1 c.max.ensures,
        writes_then g.O.Write.contents _ _ _ before.0 one.0 before.2 one.2,
      );
    }
