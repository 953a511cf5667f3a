-- The lines of the modules so far.
use Rattle.std.proofs.Common.{◌≡◌, ◌++◌, map, string_bytes, take}
use Rattle.std.specs.List.{flat_map}
use Rattle.minidump.specs.Below.Records.Crashpad.{module_of}
use Rattle.crash_lines.specs.Messages.{module_lines}
use Rattle.crash_lines.specs.Lines.{line_of}
use Rattle.crash_lines.proofs.messages.push_crashpad.Given as goal

abbrev pub invariant-loop-module : goal.invariant-loop-module
invariant-loop-module l = string_bytes l.out ≡ string_bytes l.initial.out ++ flat_map line_of (flat_map module_lines (map module_of (take l.module-index l.module-items)))
