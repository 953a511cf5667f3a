-- Passing over a register that is not yielded keeps what is left.
use Rattle.std.proofs.Common.{length, ◌-◌, ◌≡◌}
use Rattle.minidump_context.specs.Register.{names_of, registers_left}
use Rattle.minidump_context.proofs.cpu_registers.CpuRegistersIterator.next.Given as goal

abbrev pub invariant-loop-self : goal.invariant-loop-self
invariant-loop-self g l = registers_left (names_of g.T.CpuRegisterNames.table) g.T.CpuContext.aliases g.T.CpuContext.values l.fn.self
    ≡ registers_left (names_of g.T.CpuRegisterNames.table) g.T.CpuContext.aliases g.T.CpuContext.values l.self

abbrev pub decreases-loop-self : goal.decreases-loop-self
decreases-loop-self g l = length l.names - l.self.index
