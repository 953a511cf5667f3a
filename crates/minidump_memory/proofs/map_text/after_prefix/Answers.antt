-- What follows a front is the text without it.
use Rattle.std.proofs.Common.{◌≡◌, ◌++◌, ap, sym, ◌∙◌}
use Rattle.minidump_bytes.proofs.CutLemmas.{after_prefix_none, after_prefix_some}
use Rattle.minidump_memory.proofs.map_text.after_prefix.Goals as goal

pub returns-in-Some : goal.returns-in-Some
returns-in-Some c =
    let strips = c.in-Some.ensures.cases in
    let split : c.args.text.now ≡ c.args.front.now ++ c.in-Some.rest.now = strips.1.1 ∙ ap (λ l. c.args.front.now ++ l) (sym strips.2) in
    sym (after_prefix_some c.args.front.now c.args.text.now c.in-Some.rest.now split)

pub returns-in-None : goal.returns-in-None
returns-in-None c = sym (after_prefix_none c.args.front.now c.args.text.now c.in-None.ensures.cases)
