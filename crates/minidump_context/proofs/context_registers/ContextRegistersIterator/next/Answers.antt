-- The next valid register, or none.
use Rattle.std.proofs.Common.{◌∙◌, sym, ap, length, ◌≤◌, arith}
use Rattle.std.specs.Option.{option_copied}
use Rattle.std.proofs.lemmas.List.{length-map}
use Rattle.minidump_context.specs.Register.{all_or}
use Rattle.minidump_context.specs.Context.{registers_of}
use Rattle.minidump_context.proofs.ValidLemmas.{name_at}
use Rattle.minidump_context.proofs.ContextLemmas.{valid_registers_more, valid_registers_skip, valid_registers_end}
use Rattle.minidump_context.proofs.context_registers.ContextRegistersIterator.next.Goals as goal

pub returns-in-Some-clause-steps : goal.returns-in-Some-clause-steps
returns-in-Some-clause-steps c =
    let s = c.loop-self.self in
    c.loop-self.invariant.left ∙ valid_registers_more (all_or (option_copied s.valid)) (registers_of s.raw.now) s.index _ _
    (name_at c.names-names.result.now _ s.index _ c.loop-self-test.true c.loop-self.invariant.names)
    (sym c.valid_value.ensures ∙ c.in-Some.is)

pub returns-in-Some-clause-goes : goal.returns-in-Some-clause-goes
returns-in-Some-clause-goes c =
    let fewer = ap length (returns-in-Some-clause-steps c) in
    record { on = λ _. (tt, tt, omega arith); keeps = tt; rests = λ _. tt }

pub loop-self-preserved : goal.loop-self-preserved
loop-self-preserved c =
    let s = c.loop-self.self in
    record {
      names = c.loop-self.invariant.names;
      left = c.loop-self.invariant.left ∙ valid_registers_skip (all_or (option_copied s.valid)) (registers_of s.raw.now) s.index _
          (name_at c.names-names.result.now _ s.index _ c.loop-self-test.true c.loop-self.invariant.names)
          (sym c.valid_value.ensures ∙ c.in_default.is);
    }

pub returns-clause-steps : goal.returns-clause-steps
returns-clause-steps c =
    let s = c.loop-self.self in
    let count : length (registers_of s.raw.now).names ≤ s.index = rw (← c.loop-self.invariant.names) (simp length-map c.loop-self-test.false) in
    let end = valid_registers_end (all_or (option_copied s.valid)) (registers_of s.raw.now) s.index count in
    (c.loop-self.invariant.left ∙ end, end)
