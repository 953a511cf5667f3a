-- One more, and the end.
use Rattle.std.proofs.Common.{append_assoc, append-nil, rules}
use Rattle.crash_lines.proofs.messages.push_objects.Goals as goal

pub loop-name-preserved : goal.loop-name-preserved
loop-name-preserved c =
    rw (c.in_ok-push_annotation.ensures, c.as_str.ensures.value, c.annotation_text-text.ensures, append_assoc, append-nil)
    (rw c.in-Some.ensures.steps at c.loop-name.invariant)

pub returns : goal.returns
returns c = search (rules, rw c.in-None.ensures.steps.0 at c.loop-name.invariant)
