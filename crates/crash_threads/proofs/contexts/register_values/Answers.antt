-- The registers are those that were collected.
use Rattle.std.specs.declared.alloc.AllocError.{AllocError}
use Rattle.std.proofs.lemmas.Iterator.Consumers.{YieldsList-from_first, map_from_collect}
use Rattle.minidump.specs.Below.Contexts.Context.{context_registers_left}
use Rattle.crash_threads.proofs.contexts.register_values.Goals as goal

pub returns : goal.returns
returns c =
    map_from_collect {E = AllocError} _ c.collect.ensures.ran
    (YieldsList-from_first (λ r. (r.0.now, r.1)) context_registers_left _ c.registers.ensures)
