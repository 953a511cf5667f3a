-- The next register that is yielded, or none.
use Rattle.std.proofs.Common.{◌∙◌, sym, ap, length, ◌≤◌, arith}
use Rattle.std.proofs.lemmas.List.{length-map}
use Rattle.std.specs.Option.{option_copied}
use Rattle.minidump_context.specs.Register.{names_of, all_or}
use Rattle.minidump_context.proofs.ValidLemmas.{name_at, valid_more, valid_skip, valid_end}
use Rattle.minidump_context.proofs.cpu_registers.CpuRegistersIterator.next.Goals as goal

pub returns-then-is_yielded-clause-steps : goal.returns-then-is_yielded-clause-steps
returns-then-is_yielded-clause-steps g c =
    c.loop-self.invariant ∙ valid_more _ _ _ _ _ _ _
    (name_at c.names-names.result.now _ c.loop-self.self.index _ c.loop-self-test.true c.names-names.ensures)
    c.register_at.ensures (sym c.is_yielded.ensures ∙ c.if-is_yielded.true)

pub returns-then-is_yielded-clause-goes : goal.returns-then-is_yielded-clause-goes
returns-then-is_yielded-clause-goes g c =
    let fewer = ap length (returns-then-is_yielded-clause-steps g c) in
    record { on = λ _. (tt, tt, omega arith); keeps = tt; rests = λ _. tt }

pub loop-self-preserved : goal.loop-self-preserved
loop-self-preserved g c =
    c.loop-self.invariant ∙ valid_skip _ _ _ _ _ _
    (name_at c.names-names.result.now _ c.loop-self.self.index _ c.loop-self-test.true c.names-names.ensures)
    (sym c.is_yielded.ensures ∙ c.if-is_yielded.false)

pub returns-clause-steps : goal.returns-clause-steps
returns-clause-steps g c =
    let count : length (names_of g.T.CpuRegisterNames.table) ≤ c.loop-self.self.index = rw (← c.names-names.ensures) (simp length-map c.loop-self-test.false) in
    let end = valid_end (all_or (option_copied c.loop-self.self.valid)) (names_of g.T.CpuRegisterNames.table) g.T.CpuContext.aliases
    (g.T.CpuContext.values c.loop-self.self.context.now) c.loop-self.self.index count in
    (c.loop-self.invariant ∙ end, end)
