-- Both are registers of each layout.
use Rattle.std.proofs.Common.{◌≡◌, Some, refl}
use Rattle.minidump.specs.declared.MinidumpRawContext.{MinidumpRawContext}
use Rattle.minidump.specs.declared.MinidumpRawContext.TheVariants.{X86, Amd64, Arm, Arm64, OldArm64}
use Rattle.minidump.specs.Below.Contexts.Amd64.{amd64_registers, amd64_values}
use Rattle.minidump.specs.Below.Contexts.Arm.{arm_aliases, arm_numbers, arm_registers, arm_values}
use Rattle.minidump.specs.Below.Contexts.Arm64.{arm64_aliases, arm64_old_values, arm64_registers, arm64_values}
use Rattle.minidump.specs.Below.Contexts.Context.{registers_of, value_in}
use Rattle.minidump.specs.Below.Contexts.Register.{canonical_name, register_index}
use Rattle.minidump.specs.Below.Contexts.X86.{x86_registers, x86_values}
use Rattle.stack_walk.specs.Frames.{instruction_pointer_in, stack_pointer_in}
use Rattle.stack_walk.proofs.laws.a_context_has_both_pointers.Goals as goal

-- the registers have both
abbrev HasBoth : MinidumpRawContext → Type 0
HasBoth raw =
    (value_in (registers_of raw) (registers_of raw).instruction_pointer ≡ Some (instruction_pointer_in raw))
    × (value_in (registers_of raw) (registers_of raw).stack_pointer ≡ Some (stack_pointer_in raw))

both_pointers : (raw : MinidumpRawContext) → HasBoth raw
unfolding x86_registers x86_values amd64_registers amd64_values arm_registers arm_aliases arm_numbers arm_values arm64_registers arm64_aliases arm64_values arm64_old_values canonical_name register_index
both_pointers (X86 c) = (refl, refl)
both_pointers (Amd64 c) = (refl, refl)
both_pointers (Arm c) = (refl, refl)
both_pointers (Arm64 c) = (refl, refl)
both_pointers (OldArm64 c) = (refl, refl)

pub returns-clause-instruction : goal.returns-clause-instruction
returns-clause-instruction c raw = (both_pointers raw).0

pub returns-clause-stack : goal.returns-clause-stack
returns-clause-stack c raw = (both_pointers raw).1
