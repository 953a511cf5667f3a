-- The marks so far, and those of the frames of the threads that are left, are all.
use Rattle.std.proofs.Common.{◌≡◌, ◌<◌, ◌||◌, ℕ, drop, false, get_or, length, map}
use Rattle.std.specs.List.{enumerate_from, flat_map, list_any}
use Rattle.crash_threads.specs.Threads.{thread_value}
use Rattle.crash_symbols.specs.Backtraces.{lies_in}
use Rattle.crash_text.specs.Page.{page_of}
use Rattle.crash_text.specs.Threads.{frames_at, frames_in}
use Rattle.crash_text.proofs.modules.marks_of.Given as goal

abbrev pub invariant-loop-number : goal.invariant-loop-number
invariant-loop-number l = record {
  size : length l.marks.items ≡ l.count;
  at : (k : ℕ) → k < l.count
      → (get_or l.marks.items k false || list_any (lies_in k) (flat_map (λ t. frames_at (page_of l.page) t.0 t.1) (enumerate_from l.number (map thread_value (drop l.number l.threads)))))
      ≡ list_any (lies_in k) (frames_in (page_of l.page) (map thread_value l.threads));
}
