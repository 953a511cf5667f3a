-- A change of a numbered register.
use Rattle.std.proofs.Common.{refl, [], ◌∷◌, arith}
use Rattle.minidump_context.specs.Arm64.{arm64_registers}
use Rattle.minidump_context.specs.Arm64.{arm64_old_values}
use Rattle.minidump_context.proofs.ArrayLemmas.{set_itself}
use Rattle.minidump_context.proofs.arm64.CONTEXT_ARM64_OLDCpuContext.set_register_at.Goals as goal

pub returns-in_default-clause-set : goal.returns-in_default-clause-set
unfolding arm64_old_values arm64_registers
returns-in_default-clause-set c =
    let s = c.args.self.now in set_itself s.iregs (s.sp ∷ s.pc ∷ []) 31 c.args.index c.args.value refl (omega arith) (omega arith)
