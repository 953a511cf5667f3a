-- What was appended, and the lines of the exceptions that are left, are all.
use Rattle.std.proofs.Common.{◌≡◌, ◌++◌, drop, map, string_bytes}
use Rattle.std.specs.List.{enumerate_from, flat_map}
use Rattle.minidump.specs.Below.Contexts.Context.{map_ok}
use Rattle.crash_threads.specs.Cause.{exception_of}
use Rattle.crash_lines.specs.Exceptions.{each_exception, exception_line}
use Rattle.crash_lines.specs.Lines.{line_of}
use Rattle.crash_lines.proofs.exceptions.push_several.Given as goal

abbrev pub invariant-loop-number : goal.invariant-loop-number
invariant-loop-number l =
    string_bytes l.out ++ flat_map line_of (map (λ p. exception_line p.0 p.1) (enumerate_from l.number (map (map_ok exception_of) (drop l.number l.exceptions))))
    ≡ string_bytes l.initial.out ++ flat_map line_of (each_exception (map (map_ok exception_of) l.exceptions))
