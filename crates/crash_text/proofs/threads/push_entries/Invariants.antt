-- What was appended, and the lines of the frames and calls that are left, are all.
use Rattle.std.proofs.Common.{◌≡◌, ◌++◌, drop, map, string_bytes}
use Rattle.std.specs.List.{enumerate_from, flat_map}
use Rattle.crash_process.specs.Modules.{loaded_of}
use Rattle.crash_text.specs.Threads.{each_entry, entry_line, entry_of}
use Rattle.crash_lines.specs.Lines.{line_of}
use Rattle.crash_text.proofs.threads.push_entries.Given as goal

abbrev pub invariant-loop-number : goal.invariant-loop-number
invariant-loop-number l =
    string_bytes l.out ++ flat_map line_of (map (λ p. entry_line l.is_asked (map loaded_of l.modules) p.0 p.1.0 p.1.1) (enumerate_from l.number (map entry_of (drop l.number l.entries))))
    ≡ string_bytes l.fn.out ++ flat_map line_of (each_entry l.is_asked (map loaded_of l.modules) (map entry_of l.entries))
