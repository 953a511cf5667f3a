-- The value is that of the words that are left, after the values so far.
use Rattle.std.proofs.Common.{◌≡◌, length, []}
use Rattle.minidump_bytes.specs.LinuxOsStr.{text_of, words_of}
use Rattle.breakpad_symbols.proofs.RuleLemmas.{Value}
use Rattle.breakpad_symbols.proofs.expression.evaluate.Given as goal

abbrev pub invariant-loop-word : goal.invariant-loop-word
invariant-loop-word g l =
    Value (g.S.UnwindState.value l.state) l.frame_address (text_of l.expression) []
    ≡ Value (g.S.UnwindState.value l.state) l.frame_address (text_of l.rest) l.values

abbrev pub decreases-loop-word : goal.decreases-loop-word
decreases-loop-word g l = length (words_of (text_of l.rest))
