-- The entries of the frames so far.
use Rattle.std.proofs.Common.{◌≡◌, map, take}
use Rattle.crash_symbols.specs.NameParts.{named_of}
use Rattle.crash_text.specs.Threads.{entry_of}
use Rattle.crash_text.specs.Threads.{entries_in}
use Rattle.crash_text.proofs.threads.entries_in.Given as goal

abbrev pub invariant-loop-frame : goal.invariant-loop-frame
invariant-loop-frame l = map entry_of l.entries.items ≡ entries_in (map named_of (take l.frame-index l.frames))
