use Rattle.std.proofs.Common.{string_bytes, ◌≡◌, ◌++◌, encode_utf8_all}
use Rattle.std.specs.List.{flat_map}
use Rattle.crash_lines.specs.Lines.{escape_char}
use Rattle.crash_lines.proofs.lines.push_escaped.Given as goal

abbrev pub invariant-loop-c : goal.invariant-loop-c
invariant-loop-c l =
    string_bytes l.out ≡ string_bytes l.fn.out ++ encode_utf8_all (flat_map escape_char l.yielded)
