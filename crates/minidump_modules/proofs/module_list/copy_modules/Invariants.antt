-- The copies are the same modules as those so far.
use Rattle.std.proofs.Common.{◌≡◌, map, take}
use Rattle.minidump_modules.specs.Module.{module_of}
use Rattle.minidump_modules.proofs.module_list.copy_modules.Given as goal

abbrev pub invariant-loop-module : goal.invariant-loop-module
invariant-loop-module l = map module_of l.copies.items ≡ map module_of (take l.module-index l.modules)
