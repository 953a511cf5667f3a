-- Passing over a register that is not valid keeps what is left.
use Rattle.std.proofs.Common.{length, ◌-◌, ◌≡◌, map}
use Rattle.minidump_context.specs.Context.{context_registers_left, registers_of}
use Rattle.minidump_context.proofs.context_registers.ContextRegistersIterator.next.Given as goal

abbrev pub invariant-loop-self : goal.invariant-loop-self
invariant-loop-self l = record {
  names : map (λ n. n.now) l.names ≡ (registers_of l.self.raw.now).names;
  left : context_registers_left l.fn.self ≡ context_registers_left l.self;
}

abbrev pub decreases-loop-self : goal.decreases-loop-self
decreases-loop-self l = length l.names - l.self.index
