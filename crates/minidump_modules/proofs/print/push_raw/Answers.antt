-- The parts of the entry, one after another.
use Rattle.std.proofs.Common.{append_assoc}
use Rattle.minidump_modules.specs.ModuleText.{raw_text}
use Rattle.minidump_modules.proofs.print.push_raw.Goals as goal

pub returns : goal.returns
unfolding raw_text
returns c = simp append_assoc at (
    rw (c.in_ok-push_version_info.ensures, c.in_ok-push_entry.ensures, c.in_ok-extend_from_slice.ensures.items) at c.push_locations.ensures)
