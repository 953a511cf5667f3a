-- The heading waits in the block, and then the lines, each a value after its name and index.
use Rattle.std.proofs.Common.{◌≡◌, rules, ℕ, List, map}
use Rattle.std.proofs.lemmas.Iterator.{YieldsList-from_map_by}
use Rattle.std.proofs.lemmas.Iterator.Consumers.{YieldsList-at}
use Rattle.std.proofs.lemmas.List.Folds.{flat_map-map}
use Rattle.std.specs.List.{enumerate_from}
use Rattle.minidump_format.specs.Numbered.{count_text, numbered_item}
use Rattle.minidump_format.proofs.Blocking.{lost_of}
use Rattle.minidump_format.proofs.Printing.{but_all}
use Rattle.minidump_format.proofs.sequence.print_numbered_all.Goals as goal

pub returns-in_err-block : goal.returns-in_err-block
returns-in_err-block g c = λ texts e n.
    lost_of g.W.Write.contents c.args.f.now c.args.f.now _ _ c.from_residual.result (but_all g.W.Write.contents c.args.f.now _ (cc)) c.from_residual.ensures.1

pub returns : goal.returns
returns g c = λ texts e n.
    let line : ℕ × List ℕ → List ℕ = numbered_item c.args.name.now (λ t. t) in
    let waits : c.push.new.out.items ≡ count_text c.args.heading.now c.args.count = rw c.in_ok-block.ensures.items at c.in_ok-push.ensures in
    rw (← n, ← flat_map-map (λ t. t) line (enumerate_from 0 texts), ← waits) (c.print_after.ensures.prints (map line (enumerate_from 0 texts))
    (YieldsList-from_map_by _ _ line (YieldsList-at c.map-lines.ensures.source e) c.map-lines.ensures.closure (λ x r q k. search rules)))
