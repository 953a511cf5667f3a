use Rattle.std.proofs.Common.{◌≡◌, ◌++◌, ◌∙◌, ap, append_assoc, append-nil, chars, encode_utf8_all, map-id, string_bytes, sym}
use Rattle.std.proofs.lemmas.Grind.{flat_map-append}
use Rattle.std.proofs.lemmas.Iterator.{YieldsList-from_chars}
use Rattle.std.proofs.lemmas.Iterator.Consumers.{YieldsList-end}
use Rattle.std.proofs.lemmas.Str.{encodes-append}
use Rattle.std.specs.List.{flat_map}
use Rattle.crash_html.specs.Page.{embedded_char}
use Rattle.crash_html.proofs.push_embedded.Goals as goal

pub loop-c-preserved : goal.loop-c-preserved
loop-c-preserved c =
    rw (flat_map-append, encodes-append, ← append_assoc, ← c.loop-c.invariant, append-nil) c.in_ok-push_char.ensures

pub returns : goal.returns
returns c =
    let done = YieldsList-end (YieldsList-from_chars c.args.json.now c.utf8.json cc) c.loop-c.yielded _ c.loop-c.yielded_by _ _ c.in-None.is c.next.ensures.steps in
    let same : c.loop-c.yielded ≡ chars c.args.json.now = sym (map-id c.loop-c.yielded) ∙ done.0 in
    c.loop-c.invariant ∙ ap (λ cs. string_bytes c.args.out.now ++ encode_utf8_all (flat_map embedded_char cs)) same
