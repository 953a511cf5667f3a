-- The backtraces of the threads so far.
use Rattle.std.proofs.Common.{◌≡◌, map}
use Rattle.std.specs.List.{range_with_len}
use Rattle.std.specs.Option.{option_map}
use Rattle.crash.specs.Crash.{crash_of}
use Rattle.crash_threads.specs.Frames.{crash_walk_of}
use Rattle.crash_symbols.specs.Backtraces.{backtrace_in}
use Rattle.crash_symbols.specs.Symbols.{known_of}
use Rattle.crash_symbols.proofs.backtraces.Backtraces.find.Given as goal

abbrev pub invariant-loop-thread : goal.invariant-loop-thread
invariant-loop-thread l = map (option_map crash_walk_of) l.threads.items
    ≡ map (backtrace_in (crash_of l.crash) (known_of l.symbols) l.scan) (range_with_len 0 l.thread)
