-- The digits of the line are those of the build id.
use Rattle.minidump_modules.specs.ModuleText.{elf_text}
use Rattle.minidump_modules.proofs.print.push_elf.Goals as goal

pub returns : goal.returns
unfolding elf_text
returns c = rw (← c.in_ok-id.ensures, ← c.as_str.ensures.value) c.push_pieces.ensures.ok
