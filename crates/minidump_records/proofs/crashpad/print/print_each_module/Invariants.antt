-- The writer took all but the modules that are left.
use Rattle.std.proofs.Common.{ℕ, List, []}
use Rattle.std.proofs.lemmas.Iterator.{YieldsList}
use Rattle.minidump_records.specs.Crashpad.{Module, module_of}
use Rattle.minidump_records.specs.Crashpad.Text.{module_text}
use Rattle.minidump_format.proofs.SequenceLemmas.{Waits}
use Rattle.minidump_records.proofs.crashpad.print.print_each_module.Given as goal

abbrev pub invariant-loop-item : goal.invariant-loop-item
invariant-loop-item g l =
    (goal.iterator-loop-item g).can_next l.item-iterator × (goal.iterator-loop-item g).is_finite l.item-iterator
    × ((all : List (ℕ × Module)) → YieldsList g.I.Iterator.next_gives (λ m. (m.0, module_of m.1.now)) l.fn.modules all
    → Waits g.W.Write.contents g.I.Iterator.next_gives (λ m. (m.0, module_of m.1.now)) module_text l.item-iterator l.fn.f l.f all [])
