-- What was appended, and the lines of the threads that are left, are all.
use Rattle.std.proofs.Common.{◌≡◌, ◌++◌, drop, map, string_bytes}
use Rattle.std.specs.List.{enumerate_from, flat_map}
use Rattle.crash_threads.specs.Threads.{thread_value}
use Rattle.crash_lines.specs.Lines.{line_of}
use Rattle.crash_text.specs.Page.{page_of}
use Rattle.crash_text.specs.Threads.{each_other, other_lines}
use Rattle.crash_text.proofs.threads.push_others.Given as goal

abbrev pub invariant-loop-number : goal.invariant-loop-number
invariant-loop-number l =
    string_bytes l.out ++ flat_map line_of (flat_map (λ t. other_lines (page_of l.page) t.0 t.1) (enumerate_from l.number (map thread_value (drop l.number l.threads))))
    ≡ string_bytes l.fn.out ++ flat_map line_of (each_other (page_of l.page) (map thread_value l.threads))
