-- All items were put, in brackets.
use Rattle.std.proofs.Common.{◌∙◌, ◌++◌, ap, rules}
use Rattle.std.proofs.lemmas.List.{take_all}
use Rattle.crash_json.proofs.Tokens.{in_array, item_tokens}
use Rattle.crash_json.proofs.tree.RefSliceToJson.put.Goals as goal

pub returns : goal.returns
returns g c =
    let json = g.T.ToJson.json in let items = c.args.self.now.now in
    let all = take_all c.loop-x.x-index items c.loop-x-test.false in
    record {
      tokens = rw (in_array json items _ _ _ c.in_ok-begin_array.ensures.ok
          (c.loop-x.invariant.tokens ∙ ap (λ xs. c.begin_array.new.self.tokens ++ item_tokens json xs) all)) at c.end_array.ensures.ok;
      before = search rules;
    }
