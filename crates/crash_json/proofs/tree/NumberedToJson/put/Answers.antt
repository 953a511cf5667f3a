-- The item at the number comes next, and all are put in brackets.
use Rattle.std.proofs.Common.{rules}
use Rattle.std.specs.List.{enumerate_from}
use Rattle.crash_json.proofs.Tokens.{in_array, last_numbered, next_numbered}
use Rattle.crash_json.proofs.tree.NumberedToJson.put.Goals as goal

pub loop-number-preserved : goal.loop-number-preserved
loop-number-preserved g c = record {
  tokens = next_numbered (g.F.NumberedJson.json_at c.args.self.now.1.now) c.as_slice-items.result.now c.loop-number.number
      c.loop-number.out.tokens c.put_at.new.out.tokens c.index-items-number.result c.loop-number-test.true c.index-items-number.is c.in_ok-put_at.ensures.tokens c.loop-number.invariant.tokens;
  before = search rules;
}

pub returns : goal.returns
returns g c =
    let json = g.F.NumberedJson.json_at c.args.self.now.1.now in let items = c.as_slice-items.result.now in
    let all = last_numbered json items c.loop-number.number c.loop-number.out.tokens c.loop-number-test.false c.loop-number.invariant.tokens in
    record {
      tokens = rw (← c.as_slice-items.ensures.value) (rw (in_array (λ p. json p.0 p.1) (enumerate_from 0 items) _ _ _ c.in_ok-begin_array.ensures.ok all) at c.end_array.ensures.ok);
      before = search rules;
    }
