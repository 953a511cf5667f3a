-- The registers so far that have a value.
use Rattle.std.proofs.Common.{◌≡◌, map, take}
use Rattle.symbol_walk.specs.Registers.{known_by, known_of, row_of}
use Rattle.symbol_walk.specs.Rules.{value_by}
use Rattle.symbol_walk.proofs.registers.known_by.Given as goal

abbrev pub invariant-loop-register : goal.invariant-loop-register
invariant-loop-register l = map known_of l.known.items ≡ known_by (value_by l.by) (map row_of (take l.register-index l.table))
