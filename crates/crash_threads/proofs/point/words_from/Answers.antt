-- Each word that the stack has, in order.
use Rattle.std.proofs.Common.{◌≡◌, ◌-◌, arith, refl, rules, tests}
use Rattle.std.proofs.lemmas.Iterator.{YieldsList-from_range, items_from_collect}
use Rattle.std.proofs.lemmas.Iterator.Consumers.{YieldsList-at, YieldsList-from_filter_map}
use Rattle.stack_walk.specs.Frames.{stack_of}
use Rattle.crash_threads.specs.Point.{word_at}
use Rattle.crash_threads.proofs.point.words_from.Goals as goal

pub returns : goal.returns
returns c =
    let limit = c.args.limit in
    let all : limit - 0 ≡ limit = omega arith in
    items_from_collect _ c.collect.ensures.ran
    (YieldsList-from_filter_map _ (λ index. word_at (stack_of c.args.stack.now) c.args.from index)
    (YieldsList-at c.filter_map.ensures.source (YieldsList-from_range 0 limit limit refl all))
    c.filter_map.ensures.closure (λ x r q k. search (rules, tests)))
