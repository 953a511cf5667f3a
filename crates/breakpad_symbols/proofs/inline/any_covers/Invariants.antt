-- A range has the address exactly if one so far or one of those that are left has it.
use Rattle.std.proofs.Common.{◌≡◌, length, false}
use Rattle.minidump_bytes.specs.LinuxOsStr.{text_of, words_of}
use Rattle.breakpad_symbols.proofs.InlineLemmas.{Covered}
use Rattle.breakpad_symbols.proofs.inline.any_covers.Given as goal

abbrev pub invariant-loop-first : goal.invariant-loop-first
invariant-loop-first l = Covered l.address false (text_of l.ranges) ≡ Covered l.address l.covered (text_of l.rest)

abbrev pub decreases-loop-first : goal.decreases-loop-first
decreases-loop-first l = length (words_of (text_of l.rest))
