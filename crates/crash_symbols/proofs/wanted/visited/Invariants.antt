-- The marks by the threads so far.
use Rattle.std.proofs.Common.{◌≡◌, ◌<◌, ℕ, false, get_or, length, map, take}
use Rattle.std.specs.List.{list_any}
use Rattle.std.specs.Option.{option_map}
use Rattle.crash_threads.specs.Frames.{crash_walk_of}
use Rattle.crash_symbols.specs.Backtraces.{visits}
use Rattle.crash_symbols.proofs.wanted.visited.Given as goal

abbrev pub invariant-loop-thread : goal.invariant-loop-thread
invariant-loop-thread l = record {
  len : length l.marks.items ≡ l.count;
  marks : (k : ℕ) → k < l.count → get_or l.marks.items k false ≡ list_any (visits k) (map (option_map crash_walk_of) (take l.thread-index l.threads));
}
