-- What a numbered register holds.
use Rattle.std.proofs.Common.{[], ◌∷◌, arith}
use Rattle.minidump_context.specs.Arm64.{arm64_registers}
use Rattle.minidump_context.specs.Arm64.{arm64_values}
use Rattle.minidump_context.proofs.ArrayLemmas.{get_itself}
use Rattle.minidump_context.proofs.arm64.CONTEXT_ARM64CpuContext.register_at.Goals as goal

pub returns-in_default : goal.returns-in_default
unfolding arm64_values arm64_registers
returns-in_default c = let s = c.args.self.now in get_itself s.iregs (s.sp ∷ s.pc ∷ []) 31 c.args.index (omega arith)
