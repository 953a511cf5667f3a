-- The text of the parts so far.
use Rattle.std.proofs.Common.{◌≡◌, string_bytes, take}
use Rattle.std.specs.List.{flat_map}
use Rattle.crash_lines.specs.Parts.{part_text}
use Rattle.crash_lines.proofs.parts.format_parts.Given as goal

abbrev pub invariant-loop-part : goal.invariant-loop-part
invariant-loop-part l = string_bytes l.text ≡ flat_map part_text (take l.part-index l.parts)
