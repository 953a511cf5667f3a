-- What is found are the candidates of the words so far.
use Rattle.std.proofs.Common.{List, ◌++◌}
use Rattle.stack_walk.specs.declared.frame.StackFrame.{StackFrame}
use Rattle.stack_walk.specs.Found.{IsFound}
use Rattle.stack_walk.specs.Frames.{stack_of, word_candidates}
use Rattle.stack_walk.proofs.scan.Found.add_words.Given as goal

abbrev pub invariant-loop-index : goal.invariant-loop-index
invariant-loop-index l = (before : List StackFrame) → IsFound l.limit before l.fn.self
    → IsFound l.limit (before ++ word_candidates (stack_of l.stack) (l.first, l.index)) l.self
