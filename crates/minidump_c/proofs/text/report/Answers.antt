-- The report is what the vector holds.
use Rattle.std.proofs.Common.{ap, refl}
use Rattle.std.specs.Prelude.{◌≡◌, ℕ, List, [], Option, Some, Result, Ok, Err, IsOkAnd}
use Rattle.minidump.specs.declared.Error.{Error}
use Rattle.minidump.specs.declared.Told.{Told}
use Rattle.minidump.specs.Below.Bytes.Told.{device_of}
use Rattle.minidump.specs.Below.Reasons.Names.{Lists}
use Rattle.minidump.specs.Dump.{Dump, dump_in}
use Rattle.minidump.specs.Report.{ReportsOn, report_text}
use Rattle.minidump_c.proofs.text.report.Goals as goal

-- what an empty device took is the report
is_report : {D : Type 0} (contents : D → Option (List ℕ)) (old new : Told D) (names : Lists) (u : Unit {0}) (text : List ℕ) (assigned : Result Dump Error)
    → contents (device_of old) ≡ Some [] → contents (device_of new) ≡ Some text → ReportsOn contents old new names (Ok u) assigned
    → IsOkAnd assigned (λ dump. text ≡ report_text names dump)
is_report contents old new names u text (Ok dump) was now prints = rw (was, now) at prints.grown
is_report contents old new names u text (Err e) was now (same, other) = absurd (cc)

pub returns-in-Ok-clause-text : goal.returns-in-Ok-clause-text
returns-in-Ok-clause-text c =
    is_report (λ v. Some v.items) c.new-out.result c.write_report.new.f c.args.names.now c.in-Ok.field-0 c.into_device.result.items (dump_in c.args.bytes.now)
    (rw c.new-out.ensures.device (ap Some c.new.ensures.items)) (rw c.into_device.ensures refl) c.in-Ok.ensures
