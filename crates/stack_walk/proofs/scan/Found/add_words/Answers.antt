-- A word more, with a candidate or without; or as many candidates as are asked for.
use Rattle.std.proofs.Common.{◌≡◌, ◌+◌, ◌-◌, append-nil, arith}
use Rattle.stack_walk.specs.Frames.{stack_of}
use Rattle.stack_walk.proofs.FoundLemmas.{words_enough, words_more}
use Rattle.stack_walk.proofs.scan.Found.add_words.Goals as goal

pub loop-index-init : goal.loop-index-init
loop-index-init c before is = record { seen = is.seen; frames = rw append-nil is.frames }

pub loop-index-preserved : goal.loop-index-preserved
loop-index-preserved c before is =
    let was = c.loop-index.invariant before is in
    let added = c.in_ok-add.ensures was.seen in
    record {
      seen = added.0;
      frames = words_more (stack_of c.args.stack.now) c.args.limit before c.args.words.0 c.loop-index.index _ _ _ c.word_candidate.ensures was.frames added.1;
    }

pub returns-then-len-limit : goal.returns-then-len-limit
returns-then-len-limit c before is =
    let was = c.loop-index.invariant before is in
    let i = c.loop-index.index in
    let all : i + (c.args.words.1 - i) ≡ c.args.words.1 = omega arith in
    record {
      seen = was.seen;
      frames = rw all at (words_enough (stack_of c.args.stack.now) c.args.limit before c.args.words.0 i (c.args.words.1 - i) _
          (omega (arith, c.if-len-limit.true, c.len.ensures)) was.frames);
    }
