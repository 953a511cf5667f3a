-- The frames so far.
use Rattle.std.proofs.Common.{◌≡◌, ◌++◌, map, take}
use Rattle.std.specs.Option.{option_copied, option_map}
use Rattle.crash_symbols.specs.NameParts.{named_of}
use Rattle.crash_symbols.specs.Names.{named_in}
use Rattle.crash_symbols.specs.Symbols.{files_of, known_of}
use Rattle.crash_symbols.proofs.shown.push_named.Given as goal

abbrev pub invariant-loop-frame : goal.invariant-loop-frame
invariant-loop-frame l = map named_of l.named.items ≡ map named_of l.initial.named.items
    ++ map (named_in (files_of (option_map known_of (option_copied l.symbols)))) (take l.frame-index l.frames)
