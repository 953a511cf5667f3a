-- A change of a numbered register.
use Rattle.std.proofs.Common.{refl, sym, [], arith}
use Rattle.minidump_context.specs.Arm.{arm_registers, arm_values, arm_numbers}
use Rattle.minidump_context.proofs.ArrayLemmas.{set_in_order}
use Rattle.minidump_context.proofs.arm.CONTEXT_ARMCpuContext.set_register_at.Goals as goal

pub returns-clause-set : goal.returns-clause-set
unfolding arm_registers arm_values arm_numbers
returns-clause-set c =
    let s = c.args.self.now in
    set_in_order s.iregs arm_numbers [] c.args.index c.number_of.result c.args.value refl (omega arith) (sym c.number_of.ensures.value) (omega arith)
