-- The wanted ones of the modules so far.
use Rattle.std.proofs.Common.{◌≡◌, filter}
use Rattle.std.specs.List.{range_with_len}
use Rattle.crash_symbols.specs.Backtraces.{backtraces_of, is_wanted}
use Rattle.crash_symbols.specs.Symbols.{known_of}
use Rattle.crash_symbols.proofs.backtraces.Backtraces.wanted.Given as goal

abbrev pub invariant-loop-index : goal.invariant-loop-index
invariant-loop-index l =
    l.wanted.items ≡ filter (is_wanted (backtraces_of l.self) (known_of l.symbols).states) (range_with_len 0 l.index)
