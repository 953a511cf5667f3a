-- What was written reads as the value, whose tokens it has.
use Rattle.std.proofs.Common.{rules}
use Rattle.std.specs.Option.{option_copied, option_map}
use Rattle.json.specs.Print.{print}
use Rattle.crash.specs.Crash.{crash_of}
use Rattle.crash_symbols.specs.Shown.{symbolized_of}
use Rattle.crash_json.specs.Report.{json_of}
use Rattle.crash_json.proofs.Depth.{line_depth}
use Rattle.crash_json.proofs.Tokens.{document_of_put}
use Rattle.crash_json.proofs.json_of.Goals as goal

pub returns-clause-reads : goal.returns-clause-reads
returns-clause-reads c =
    document_of_put c.into_inner.result.items (print c.put.new.out.tokens) _ _
    (json_of c.args.limits.now (option_copied c.args.path) (option_map symbolized_of (option_copied c.args.symbols)) (crash_of c.args.crash.now))
    (search rules) c.into_inner.ensures.reads_back c.in_ok-put.ensures.tokens c.new-out.ensures.tokens (line_depth _ _ _ _)
