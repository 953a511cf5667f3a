-- The digits stand after the prefix, or alone.
use Rattle.std.proofs.Common.{◌≡◌, ◌++◌, codes, ap, sym, ◌∙◌}
use Rattle.mdump.proofs.CommandLemmas.{after_prefix, with_no_prefix}
use Rattle.mdump.proofs.command.hex_address.Goals as goal

pub returns-in-Some : goal.returns-in-Some
returns-in-Some c =
    let strips = c.in-Some.ensures.cases in
    let split : c.args.word.now ≡ codes "0x" ++ c.in-Some.digits.now = strips.1.1 ∙ ap (λ l. codes "0x" ++ l) (sym strips.2) in
    after_prefix c.args.word.now c.in-Some.digits.now c.hex_digits.result split c.hex_digits.ensures

pub returns-in-None : goal.returns-in-None
returns-in-None c = with_no_prefix c.args.word.now c.hex_digits-in-None.result c.in-None.ensures.cases c.hex_digits-in-None.ensures
