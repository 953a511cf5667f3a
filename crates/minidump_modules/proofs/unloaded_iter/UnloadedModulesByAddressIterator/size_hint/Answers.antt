-- As many modules are left as indices.
use Rattle.std.proofs.Common.{arith, refl}
use Rattle.minidump_modules.proofs.FoundLemmas.{length-modules}
use Rattle.minidump_modules.proofs.unloaded_iter.UnloadedModulesByAddressIterator.size_hint.Goals as goal

pub returns-clause-lower : goal.returns-clause-lower
returns-clause-lower c = rw (← c.self.view_is) (let long = length-modules _ _ c.self.invariant in λ finite. omega (arith, long))

pub returns-clause-upper : goal.returns-clause-upper
returns-clause-upper c = rw (← c.self.view_is) (let long = length-modules _ _ c.self.invariant in (tt, omega (arith, long)))

pub returns-clause-exact : goal.returns-clause-exact
returns-clause-exact c = rw (← c.self.view_is) (let long = length-modules _ _ c.self.invariant in rw long refl)
