-- The first module that contains the address is the first that is left.
use Rattle.std.proofs.Common.{◌∙◌, ap, refl, sym}
use Rattle.minidump_modules.specs.UnloadedOrder.{has, modules_of_order}
use Rattle.minidump_modules.proofs.FoundLemmas.{fewer, first_module, first_passes, none_passes}
use Rattle.std.proofs.lemmas.List.Quantifiers.{position-Some}
use Rattle.minidump_modules.proofs.unloaded_iter.ModulesAtAddressIterator.next.Goals as goal

pub returns-in_default-clause-steps : goal.returns-in_default-clause-steps
returns-in_default-clause-steps c =
    let none = none_passes (has c.self.inside.address) c.self.inside.order.now (sym c.first_at.ensures ∙ c.in_default.is) in
    (sym c.self.view_is ∙ ap (modules_of_order c.self.inside.modules.now) none, refl)

pub returns-clause-steps : goal.returns-clause-steps
returns-clause-steps c =
    let p = has c.self.inside.address in
    let xs = c.self.inside.order.now in
    let e = c.index-order-at.result in
    let found = sym c.first_at.ensures ∙ c.in-Some.is in
    let split = first_passes p xs c.in-Some.at e found in
    rw (← c.self.view_is) (first_module _ _ _ _ _ split (c.self.invariant c.in-Some.at e (position-Some p xs c.in-Some.at e found).0) c.index-modules-order.is)

pub returns-clause-goes : goal.returns-clause-goes
returns-clause-goes c =
    let p = has c.self.inside.address in
    let xs = c.self.inside.order.now in
    let e = c.index-order-at.result in
    let found = sym c.first_at.ensures ∙ c.in-Some.is in
    let split = first_passes p xs c.in-Some.at e found in
    rw (← c.self.view_is) (record {
      on = λ finite. (tt, tt, fewer _ _ _ _ _ split (c.self.invariant c.in-Some.at e (position-Some p xs c.in-Some.at e found).0) c.index-modules-order.is);
      keeps = tt;
      rests = λ finite. tt;
    })
