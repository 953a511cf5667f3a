-- A near word's line has digits of fixed counts.
use Rattle.std.proofs.Common.{rules, arith}
use Rattle.minidump.proofs.StackLemmas.{near_32}
use Rattle.minidump.proofs.thread.stack.push_word_32.Goals as goal

pub returns-then-offset-lt4294967296 : goal.returns-then-offset-lt4294967296
returns-then-offset-lt4294967296 c =
    let near = near_32 c.args.offset c.args.word (omega (arith, c.if-offset-lt4294967296.true)) (omega (arith, c.ranges.word.fits)) in
    rw (near, ← c.near_word_32.ensures) (search rules)
