-- What a numbered register holds.
use Rattle.std.proofs.Common.{◌∙◌, ap, sym, [], slice_index, Some, arith}
use Rattle.minidump_context.specs.Arm.{arm_registers, arm_values, arm_numbers}
use Rattle.minidump_context.proofs.ArrayLemmas.{get_at}
use Rattle.minidump_context.proofs.arm.CONTEXT_ARMCpuContext.register_at.Goals as goal

pub returns : goal.returns
unfolding arm_registers arm_values arm_numbers
returns c =
    let s = c.args.self.now in
    get_at s.iregs arm_numbers [] c.args.index (omega arith) ∙ ap (λ k. Some (slice_index s.iregs k)) (sym c.number_of.ensures.value)
