-- The borrowed aliases, mapped to what is borrowed.
use Rattle.std.proofs.Common.{refl, List, ℕ}
use Rattle.minidump_context.specs.Register.{holds_any}
use Rattle.minidump_context.proofs.NameLemmas.{list_any-map}
use Rattle.minidump_context.proofs.validity.MinidumpContextValidity.holds_any.Goals as goal

pub returns-then-holds : goal.returns-then-holds
unfolding holds_any
returns-then-holds c = rw (← c.holds.ensures, c.if-holds.true) refl

pub returns-else-holds : goal.returns-else-holds
unfolding holds_any
returns-else-holds c =
    rw (← c.holds.ensures, c.if-holds.false, list_any-map {Y = List ℕ × List ℕ} _ (λ a. (a.0.now, a.1.now)) c.args.aliases.now) c.holds_alias.ensures
