-- The items below the index were put.
use Rattle.std.proofs.Common.{take, ◌≡◌, ◌++◌}
use Rattle.crash_json.proofs.Tokens.{item_tokens}
use Rattle.crash_json.proofs.tree.RefSliceToJson.put.Given as goal

abbrev pub invariant-loop-x : goal.invariant-loop-x
invariant-loop-x g l = record {
  tokens : l.out.tokens ≡ l.initial.out.tokens ++ item_tokens g.T.ToJson.json (take l.x-index l.items);
  before : l.out.before ≡ l.initial.out.before;
}
