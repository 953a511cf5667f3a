-- The lines of the pieces so far.
use Rattle.std.proofs.Common.{◌≡◌, ◌++◌, take}
use Rattle.std.specs.List.{flat_map}
use Rattle.minidump_records.specs.Handles.{info_line}
use Rattle.minidump_records.proofs.handles.print.push_info_lines.Given as goal

abbrev pub invariant-loop-info : goal.invariant-loop-info
invariant-loop-info l = l.out.items ≡ l.initial.out.items ++ flat_map info_line (take l.info-index l.infos)
