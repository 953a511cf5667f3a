-- The handles so far are counted.
use Rattle.std.proofs.Common.{◌≡◌, ℕ, List, take, count_by, is_some, unwrap_or, nat_cmp}
use Rattle.std.specs.BTreeMap.{IsOrdered, get_by}
use Rattle.std.specs.Cmp.Lexicographic.{slice_cmp}
use Rattle.std.specs.List.{list_any}
use Rattle.minidump.specs.Below.Records.Handles.{handle_of}
use Rattle.crash_process.specs.HandleKinds.{has_type}
use Rattle.crash_process.proofs.handle_kinds.tally_of.Given as goal

abbrev pub invariant-loop-handle : goal.invariant-loop-handle
invariant-loop-handle l = record {
  ordered : IsOrdered (λ x y. slice_cmp nat_cmp x.now y.now) l.table;
  present : (q : List ℕ) → is_some (get_by (λ k. slice_cmp nat_cmp q k.now) l.table)
      ≡ list_any (λ h. has_type q (handle_of h)) (take l.handle-index l.handles);
  counted : (q : List ℕ) → unwrap_or (get_by (λ k. slice_cmp nat_cmp q k.now) l.table) 0
      ≡ count_by (λ h. has_type q (handle_of h)) (take l.handle-index l.handles);
}
