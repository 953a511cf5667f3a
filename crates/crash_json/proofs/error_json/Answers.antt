-- What was written reads as the line, whose tokens it has.
use Rattle.std.proofs.Common.{rules}
use Rattle.json.specs.Print.{print}
use Rattle.crash_json.specs.Report.{error_json}
use Rattle.crash_json.proofs.Depth.{error_depth}
use Rattle.crash_json.proofs.Tokens.{document_of_put}
use Rattle.crash_json.proofs.error_json.Goals as goal

pub returns-clause-text : goal.returns-clause-text
unfolding error_json
returns-clause-text c =
    document_of_put c.into_inner.result.items (print c.put_object.new.out.tokens) _ _ (error_json c.args.path.now c.args.status.now) (search rules)
    c.into_inner.ensures.reads_back c.in_ok-put_object.ensures.tokens c.new-out.ensures.tokens (error_depth c.args.path.now c.args.status.now)
