-- The members below the index were put.
use Rattle.std.proofs.Common.{take, map, ◌≡◌, ◌++◌}
use Rattle.crash_json.specs.Tree.{member_list_tokens}
use Rattle.crash_json.specs.Frames.{register_members}
use Rattle.crash_json.proofs.point.VecTuple2RefStrU64Members.add.Given as goal

abbrev pub invariant-loop-name : goal.invariant-loop-name
invariant-loop-name l = record {
  tokens : l.out.tokens
      ≡ l.fn.out.tokens ++ member_list_tokens (register_members (map (λ r. (r.0.now, r.1)) (take l.name-index l.named)));
  before : l.out.before ≡ l.fn.out.before;
}
