-- The modules so far.
use Rattle.std.proofs.Common.{◌≡◌, map, take}
use Rattle.minidump.specs.Below.Modules.Module.{module_of}
use Rattle.crash_process.specs.Modules.{loaded_of, module_in}
use Rattle.crash_process.proofs.modules.loaded_of.Given as goal

abbrev pub invariant-loop-item : goal.invariant-loop-item
invariant-loop-item l =
    map loaded_of l.modules.items ≡ map module_in (map module_of (take l.item-index l.list))
