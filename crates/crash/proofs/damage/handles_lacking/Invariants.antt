-- The names of the handles so far are counted.
use Rattle.std.proofs.Common.{◌≡◌, ◌*◌, ◌≤◌, take}
use Rattle.std.specs.List.{sum_by}
use Rattle.minidump.specs.Below.Records.Handles.{handle_of}
use Rattle.crash.specs.Damage.{names_lacking}
use Rattle.crash.proofs.damage.handles_lacking.Given as goal

abbrev pub invariant-loop-handle : goal.invariant-loop-handle
invariant-loop-handle l = record {
  counted : l.count ≡ sum_by (λ h. names_lacking (handle_of h)) (take l.handle-index l.handles);
  bounded : l.count ≤ 2 * l.handle-index;
}
