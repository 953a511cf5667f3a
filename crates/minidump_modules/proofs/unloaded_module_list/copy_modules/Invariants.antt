-- The copies are the same modules as those so far.
use Rattle.std.proofs.Common.{◌≡◌, map, take}
use Rattle.minidump_modules.specs.UnloadedModule.{unloaded_of}
use Rattle.minidump_modules.proofs.unloaded_module_list.copy_modules.Given as goal

abbrev pub invariant-loop-module : goal.invariant-loop-module
invariant-loop-module l = map unloaded_of l.copies.items ≡ map unloaded_of (take l.module-index l.modules)
