-- What was appended, and the entries that are left, are all.
use Rattle.std.proofs.Common.{◌≡◌, ◌++◌, map, string_bytes}
use Rattle.std.specs.List.{flat_map}
use Rattle.minidump.specs.Below.Records.Dictionary.{entries_of}
use Rattle.crash_lines.specs.Lines.{line_of}
use Rattle.crash_lines.specs.Messages.{simple_row}
use Rattle.crash_lines.proofs.messages.push_texts.Given as goal

abbrev pub invariant-loop-name : goal.invariant-loop-name
invariant-loop-name l = string_bytes l.out ++ flat_map line_of (map simple_row (entries_of string_bytes l.name-iterator))
    ≡ string_bytes l.fn.out ++ flat_map line_of (map simple_row (entries_of string_bytes l.texts.entries))
