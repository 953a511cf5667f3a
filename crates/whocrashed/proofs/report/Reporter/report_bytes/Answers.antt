-- The form of the crash, or why there is none, stands below the heading.
use Rattle.std.proofs.Common.{◌≡◌, ◌∙◌, ap, refl, sym, Ok, Err}
use Rattle.minidump.proofs.ReportLemmas.{assigned_as}
use Rattle.crash.specs.Crash.{crash_in, crash_of, status_of}
use Rattle.whocrashed.specs.Printed.{IsFormOf}
use Rattle.whocrashed.proofs.OutputLemmas.{gains_one}
use Rattle.whocrashed.proofs.PrintedLemmas.{report}
use Rattle.whocrashed.proofs.report.Reporter.report_bytes.Goals as goal

pub returns-in_ok-put-in-Ok : goal.returns-in_ok-put-in-Ok
returns-in_ok-put-in-Ok g c =
    let crash = crash_in c.args.bytes.now c.args.self.now.names.now c.args.self.now.options.now.scan in
    let is : crash ≡ Ok (crash_of c.in-Ok.crash) = rw c.in-Ok.is at c.read-crash.ensures in
    let status : c.status_of-status.result ≡ status_of crash = (rw c.in-Ok.is at c.status_of-status.ensures) ∙ ap status_of (sym is) in
    let reported : IsFormOf c.args.self.now.options.now c.args.path.now (crash_of c.in-Ok.crash) c.deref.result.now = record {
      plain = λ h. c.deref.ensures.value ∙ c.in_ok-form-in-Ok.ensures.plain h;
      by_files = λ h. rw c.deref.ensures.value (c.in_ok-form-in-Ok.ensures.by_files h);
    } in
    report g.O.Write.contents _ _ _ c.args.self.now.options.now c.args.path.now crash _ status c.in_ok-print_heading.ensures
    (gains_one g.O.Write.contents _ _ c.deref.result.now _ c.in_ok-put-in-Ok.ensures.all (rw is reported))

pub returns-in_ok-report_error-in-Err : goal.returns-in_ok-report_error-in-Err
returns-in_ok-report_error-in-Err g c =
    let crash = crash_in c.args.bytes.now c.args.self.now.names.now c.args.self.now.options.now.scan in
    let is : crash ≡ Err c.in-Err.error = assigned_as _ c.in-Err.error crash (c.in_ok-report_error-in-Err.ensures.memory refl) (rw c.in-Err.is at c.read-crash.ensures) in
    let status : c.status_of-status.result ≡ status_of crash = (rw c.in-Err.is at c.status_of-status.ensures) ∙ ap status_of (sym is) in
    report g.O.Write.contents _ _ _ c.args.self.now.options.now c.args.path.now crash _ status c.in_ok-print_heading.ensures
    (rw is c.in_ok-report_error-in-Err.ensures.printed)
