-- The lists before the index are valid.
use Rattle.std.proofs.Common.{take}
use Rattle.minidump_reason.specs.Names.{AreCodeNames}
use Rattle.minidump_reason.proofs.names.CodeNames.new.Given as goal

abbrev pub invariant-loop-index : goal.invariant-loop-index
invariant-loop-index l = AreCodeNames (take l.index l.lists)
