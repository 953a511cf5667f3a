-- An enabled feature is the first that is left, another is passed, and after the last there is none.
use Rattle.std.proofs.Common.{◌<◌, ◌≤◌, ◌∙◌, length, ap, arith}
use Rattle.minidump_format.proofs.XstateLemmas.{enabled_set, enabled_clear, enabled_end}
use Rattle.minidump_format.proofs.format.xstate.XstateFeaturesIterator.next.Goals as goal

pub returns-then-self-index-eq1-clause-steps : goal.returns-then-self-index-eq1-clause-steps
returns-then-self-index-eq1-clause-steps c =
    let s = c.loop-self.self in
    let set = enabled_set s.config.now.enabled_features s.index c.args.self.now.config.now.features _ c.loop-self-test.true c.if-self-index-eq1.true in
    c.loop-self.invariant.left ∙ rw c.loop-self.invariant.same set

pub returns-then-self-index-eq1-clause-goes : goal.returns-then-self-index-eq1-clause-goes
returns-then-self-index-eq1-clause-goes c =
    let fewer = ap length (returns-then-self-index-eq1-clause-steps c) in
    record { on = λ _. (tt, tt, omega arith); keeps = tt; rests = λ _. tt }

pub loop-self-preserved : goal.loop-self-preserved
loop-self-preserved c =
    let s = c.loop-self.self in
    let within : s.index < length s.config.now.features = rw c.loop-self.invariant.same c.loop-self-test.true in
    record {
      same = c.loop-self.invariant.same;
      left = c.loop-self.invariant.left ∙ enabled_clear s.config.now.enabled_features s.index s.config.now.features within c.if-self-index-eq1.false;
    }

pub returns-clause-steps : goal.returns-clause-steps
returns-clause-steps c =
    let s = c.loop-self.self in
    let past : length s.config.now.features ≤ s.index = rw c.loop-self.invariant.same c.loop-self-test.false in
    let end = enabled_end s.config.now.enabled_features s.index s.config.now.features past in
    (c.loop-self.invariant.left ∙ end, end)
