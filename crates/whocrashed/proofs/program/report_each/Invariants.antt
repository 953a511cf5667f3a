-- The reports on the dumps so far.
use Rattle.std.proofs.Common.{◌<◌, map, take}
use Rattle.whocrashed_inputs.specs.Input.{asked_of}
use Rattle.whocrashed.specs.Output.{Gains}
use Rattle.whocrashed.specs.Run.{AreReports, MayHave}
use Rattle.whocrashed.proofs.program.report_each.Given as goal

abbrev pub invariant-loop-i : goal.invariant-loop-i
invariant-loop-i g l = record {
  bound : l.worst < 2;
  reports : Gains g.O.Write.contents l.fn.out l.out
      (AreReports (MayHave (g.S.ReadDumps.reads l.source) l.reporter.names.now l.reporter.options.now) l.fn.worst (map asked_of (take l.i l.dumps)) l.worst);
}
