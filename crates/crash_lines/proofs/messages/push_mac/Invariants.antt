-- What was appended, and the lines of the records that are left, are all.
use Rattle.std.proofs.Common.{◌≡◌, ◌++◌, drop, map, string_bytes}
use Rattle.std.specs.List.{enumerate_from, flat_map}
use Rattle.minidump.specs.Below.Records.Record.{mac_record_of}
use Rattle.crash_lines.specs.Lines.{line_of}
use Rattle.crash_lines.specs.Messages.{mac_lines, record_lines}
use Rattle.crash_lines.proofs.messages.push_mac.Given as goal

abbrev pub invariant-loop-number : goal.invariant-loop-number
invariant-loop-number l =
    string_bytes l.out ++ flat_map line_of (flat_map (λ r. record_lines r.0 r.1) (enumerate_from l.number (map mac_record_of (drop l.number l.records))))
    ≡ string_bytes l.fn.out ++ flat_map line_of (mac_lines (map mac_record_of l.records))
