-- The modules so far.
use Rattle.std.proofs.Common.{◌≡◌, map, take}
use Rattle.minidump.specs.Below.Modules.UnloadedModule.{unloaded_of}
use Rattle.crash_process.specs.Modules.{unloaded_module_in, unloaded_module_of}
use Rattle.crash_process.proofs.modules.unloaded_of.Given as goal

abbrev pub invariant-loop-item : goal.invariant-loop-item
invariant-loop-item l =
    map unloaded_module_of l.modules.items ≡ map unloaded_module_in (map unloaded_of (take l.item-index l.list))
