-- The word is the name of the type.
use Rattle.minidump_records.proofs.linux.print.print_type.Goals as goal

pub returns-clause-prints : goal.returns-clause-prints
returns-clause-prints g c = rw (← c.name_of_type.ensures) c.put_text.ensures.prints
