-- The last address of the modules so far.
use Rattle.std.proofs.Common.{◌≡◌, map, take}
use Rattle.minidump.specs.Below.Modules.Module.{module_of}
use Rattle.stack_walk.specs.Addresses.{last_code}
use Rattle.stack_walk.proofs.addresses.last_code.Given as goal

abbrev pub invariant-loop-next : goal.invariant-loop-next
invariant-loop-next l = l.last ≡ last_code (map module_of (take l.next-index l.modules))
