-- The kind, the expression, the function and the file.
use Rattle.crash_json.specs.Records.{assertion_json}
use Rattle.crash_json.proofs.Tokens.{views}
use Rattle.crash_json.proofs.records.MinidumpAssertionToJson.put.Goals as goal

pub returns : goal.returns
unfolding assertion_json
returns c =
    rw (← c.assertion_kind.ensures, ← c.in_ok-expression.ensures.value, ← c.in_ok-function.ensures.value, ← c.in_ok-file.ensures.value)
    (simp views c.put_object.ensures)
