-- The name of the stack pointer is one that `memoize_register` knows.
use Rattle.minidump_context.proofs.LawLemmas.{has_register_name}
use Rattle.minidump_context.proofs.context.stack_pointer_of.Goals as goal

pub get_register_always-requires : goal.get_register_always-requires
get_register_always-requires g c = rw c.stack_pointer_register_name.ensures (has_register_name _ _ _ g.met.C.CpuContext.register_names.stack_pointer_known)
