-- What is left stays the same while features that are not enabled are passed.
use Rattle.std.proofs.Common.{◌≡◌, ◌-◌}
use Rattle.minidump_format.specs.Xstate.{features_left}
use Rattle.minidump_format.proofs.format.xstate.XstateFeaturesIterator.next.Given as goal

abbrev pub invariant-loop-self : goal.invariant-loop-self
invariant-loop-self l = record {
  same : l.self.config.now.features ≡ l.features;
  left : features_left l.fn.self ≡ features_left l.self;
}

abbrev pub decreases-loop-self : goal.decreases-loop-self
decreases-loop-self l = 64 - l.self.index
