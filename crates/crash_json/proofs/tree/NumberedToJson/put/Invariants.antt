-- What was put, and then the items from the number on, are all.
use Rattle.std.proofs.Common.{drop, ◌≡◌, ◌++◌}
use Rattle.std.specs.List.{enumerate_from}
use Rattle.crash_json.proofs.Tokens.{item_tokens}
use Rattle.crash_json.proofs.tree.NumberedToJson.put.Given as goal

abbrev pub invariant-loop-number : goal.invariant-loop-number
invariant-loop-number g l = record {
  tokens : l.out.tokens ++ item_tokens (λ p. g.F.NumberedJson.json_at l.by p.0 p.1) (enumerate_from l.number (drop l.number l.items))
      ≡ l.initial.out.tokens ++ item_tokens (λ p. g.F.NumberedJson.json_at l.by p.0 p.1) (enumerate_from 0 l.items);
  before : l.out.before ≡ l.initial.out.before;
}
