-- The date of the line is that of the time stamp.
use Rattle.minidump_modules.specs.ModuleText.{entry_text}
use Rattle.minidump_modules.proofs.print.push_entry.Goals as goal

pub returns : goal.returns
unfolding entry_text
returns c = rw (← c.in_ok-date.ensures, ← c.as_str.ensures.value) c.push_pieces.ensures.ok
