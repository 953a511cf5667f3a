use Rattle.std.proofs.Common.{◌≡◌, ◌++◌, ◌∙◌, ap, append_assoc, chars, encode_utf8_all, map-id, string_bytes, sym}
use Rattle.std.proofs.lemmas.Grind.{flat_map-append}
use Rattle.std.proofs.lemmas.Iterator.{YieldsList-from_chars}
use Rattle.std.proofs.lemmas.Iterator.Consumers.{YieldsList-end}
use Rattle.std.proofs.lemmas.Str.{encodes-append}
use Rattle.std.specs.List.{flat_map}
use Rattle.crash_lines.specs.Lines.{escape_char}
use Rattle.crash_lines.proofs.LineLemmas.{escaped_plain}
use Rattle.crash_lines.proofs.lines.push_escaped.Goals as goal

pub loop-c-preserved : goal.loop-c-preserved
loop-c-preserved c =
    rw (flat_map-append, encodes-append, ← append_assoc, ← c.loop-c.invariant) c.in_ok-push_char.ensures

pub returns-clause-escaped_text : goal.returns-clause-escaped_text
returns-clause-escaped_text c =
    let done = YieldsList-end (YieldsList-from_chars c.args.text.now c.utf8.text cc) c.loop-c.yielded _ c.loop-c.yielded_by _ _ c.in-None.is c.next.ensures.steps in
    let same : c.loop-c.yielded ≡ chars c.args.text.now = sym (map-id c.loop-c.yielded) ∙ done.0 in
    c.loop-c.invariant ∙ ap (λ cs. string_bytes c.args.out.now ++ encode_utf8_all (flat_map escape_char cs)) same

pub returns-clause-plain : goal.returns-clause-plain
returns-clause-plain c = escaped_plain c.args.text.now c.utf8.text
