-- The kinds so far, and those of the entries that are left, are all.
use Rattle.std.proofs.Common.{◌≡◌, ◌++◌, map}
use Rattle.crash_process.specs.HandleKinds.{kind_by, kind_of}
use Rattle.crash_process.proofs.handle_kinds.kinds_of.Given as goal

abbrev pub invariant-loop-name : goal.invariant-loop-name
invariant-loop-name l = map kind_of l.kinds.items ++ map (λ e. kind_by e.0.now e.1) l.name-iterator
    ≡ map (λ e. kind_by e.0.now e.1) l.initial.name-iterator
