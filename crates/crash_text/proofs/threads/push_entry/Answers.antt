-- The words of the line, each by what makes it.
use Rattle.crash_text.specs.Threads.{call_line, frame_line}
use Rattle.crash_text.proofs.threads.push_entry.Goals as goal

pub returns-in-Some : goal.returns-in-Some
unfolding call_line
returns-in-Some c = rw (c.in-Some.is, ← c.unwrap_or-address.ensures, ← c.source_part-place.ensures) c.push_row.ensures.ok

pub returns-in-None : goal.returns-in-None
unfolding frame_line
returns-in-None c =
    rw (c.in-None.is, ← c.unwrap_or-address.ensures, ← c.name_of-name.ensures, ← c.offset_of-offset.ensures, ← c.source_part-source.ensures, ← c.found_text-found.ensures, ← c.if_asked-instruction.ensures, ← c.if_asked-stack.ensures, ← c.if_asked-base.ensures)
    c.push_row-in-None.ensures.ok
