-- The module at the first index is the first module.
use Rattle.minidump_modules.proofs.FoundLemmas.{fewer, first_inside, first_module, rest_inside}
use Rattle.minidump_modules.proofs.unloaded_iter.UnloadedModulesByAddressIterator.next.Goals as goal

pub invariant_of-self : goal.invariant_of-self
invariant_of-self c = rest_inside _ _ _ _ c.in_ok-first.ensures.cases.0 c.self.invariant

pub returns-clause-steps : goal.returns-clause-steps
returns-clause-steps c = rw (← c.self.view_is) (first_module _ _ _ _ _ c.in_ok-first.ensures.cases.0
    (first_inside _ _ _ _ c.in_ok-first.ensures.cases.0 c.self.invariant) c.index-modules-first.is)

pub returns-clause-goes : goal.returns-clause-goes
returns-clause-goes c = rw (← c.self.view_is) (record {
  on = λ finite. (
    tt,
    tt,
    fewer _ _ _ _ _ c.in_ok-first.ensures.cases.0
        (first_inside _ _ _ _ c.in_ok-first.ensures.cases.0 c.self.invariant) c.index-modules-first.is,
  );
  keeps = tt;
  rests = λ finite. tt;
})
