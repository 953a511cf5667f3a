-- The parts of a text, one after another, have no control characters but the ends of their lines.
use Rattle.std.proofs.Common.{◌≡◌, ◌∙◌, ◌++◌, List, ℕ, ap, append_assoc, string_bytes, sym}
use Rattle.std.proofs.lemmas.Grind.{flat_map-append}
use Rattle.std.specs.List.{flat_map}
use Rattle.std.specs.Option.{option_copied, option_map}
use Rattle.crash.specs.Crash.{crash_of}
use Rattle.crash_symbols.specs.Shown.{symbolized_of}
use Rattle.crash_lines.specs.Lines.{line_of}
use Rattle.crash_text.specs.Text.{lines_of}
use Rattle.crash_lines.proofs.LineLemmas.{lines_printed}
use Rattle.crash_text.proofs.text.text_of.Goals as goal

-- lines were appended, and then others
both : (old now new : List ℕ) (lines others : List (List ℕ)) → now ≡ old ++ flat_map line_of lines → new ≡ now ++ flat_map line_of others
    → new ≡ old ++ flat_map line_of (lines ++ others)
both old now new lines others first then =
    then ∙ ap (λ t. t ++ flat_map line_of others) first ∙ append_assoc old (flat_map line_of lines) (flat_map line_of others)
    ∙ ap (λ t. old ++ t) (sym (flat_map-append line_of lines others))

pub returns : goal.returns
returns c =
    let symbols = option_map symbolized_of (option_copied c.args.symbols) in
    let lines = lines_of (record { crash = crash_of c.args.crash.now; limits = c.args.limits.now; symbols = symbols }) in
    let text : string_bytes c.push_lists.new.out ≡ flat_map line_of lines =
    rw c.new-text.ensures.bytes at
    (both _ _ _ _ _ (rw c.as_slice.ensures.value at c.in_ok-push_none.ensures)
    (both _ _ _ _ _ c.in_ok-push_head.ensures
    (both _ _ _ _ _ c.in_ok-push_crash.ensures
    (both _ _ _ _ _ (rw c.in_ok-signature.ensures at c.in_ok-push_signature.ensures)
    (both _ _ _ _ _ c.in_ok-push_damage.ensures
    (both _ _ _ _ _ c.in_ok-push_crashed.ensures
    (both _ _ _ _ _ c.in_ok-push_messages.ensures
    (both _ _ _ _ _ (rw c.as_slice-2.ensures.value at c.in_ok-push_others.ensures)
    (both _ _ _ _ _ c.in_ok-push_modules.ensures c.in_ok-push_lists.ensures)))))))))
    in
    record { text = text; printed = rw text (lines_printed lines) }
