-- The calls of the text are those so far, and those of the rest.
use Rattle.std.proofs.Common.{length}
use Rattle.breakpad_symbols.specs.Function.{ends_function}
use Rattle.breakpad_symbols.proofs.InlineLemmas.{Calls}
use Rattle.breakpad_symbols.proofs.function.calls_in.Given as goal

abbrev pub invariant-loop-line : goal.invariant-loop-line
invariant-loop-line l = Calls l.address ends_function l.text l.calls.items l.rest

abbrev pub decreases-loop-line : goal.decreases-loop-line
decreases-loop-line l = length l.rest
