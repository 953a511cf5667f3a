-- What was begun, and then that memory ran out.
use Rattle.std.proofs.Common.{◌≡◌, ◌++◌, inr, refl, Err}
use Rattle.whocrashed_inputs.specs.Input.{asked_of}
use Rattle.whocrashed.specs.Output.{Gains}
use Rattle.whocrashed.specs.Printed.{IsBegun}
use Rattle.whocrashed.specs.Run.{path_of}
use Rattle.whocrashed.specs.declared.output.Stopped.TheVariants.{NoMemory}
use Rattle.whocrashed.proofs.OutputLemmas.{writes_then}
use Rattle.whocrashed.proofs.PrintedLemmas.{cut}
use Rattle.whocrashed.proofs.report.Reporter.report.Goals as goal

pub returns-in_ok-complain_of_memory-in-Err-NoMemory-clause-reported : goal.returns-in_ok-complain_of_memory-in-Err-NoMemory-clause-reported
returns-in_ok-complain_of_memory-in-Err-NoMemory-clause-reported g c =
    let is : c.try_report.result ≡ Err (NoMemory c.in-Err-NoMemory.error) =
    cc (c.in-Err-NoMemory.is, c.in-Err-NoMemory.field-0-is, c.in-Err-NoMemory.error-is) in
    let begun : Gains g.O.Write.contents c.args.out.now c.try_report.new.out (IsBegun c.args.self.now.options.now (path_of (asked_of c.args.dump))) =
    rw is at c.try_report.ensures.reported in
    let rest = c.in_ok-complain_of_memory-in-Err-NoMemory.ensures.printed in (
      begun.0 ++ rest.0,
      inr (refl, cut c.args.self.now.options.now _ begun.0 rest.0 begun.1 rest.1),
      writes_then g.O.Write.contents _ _ _ begun.0 rest.0 begun.2 rest.2,
    )
