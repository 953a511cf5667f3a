-- A space at the front is trimmed.
use Rattle.std.proofs.Common.{◌≡◌, ◌+◌, ◌<◌, ◌∷◌, ◌∙◌, ap, arith, drop, get_or, length, refl, sym}
use Rattle.std.proofs.lemmas.List.{drop_more}
use Rattle.std.proofs.lemmas.Str.{IsCharBoundary-after_ascii, IsCharBoundary-from_drop, IsUtf8-drop}
use Rattle.minidump_memory.proofs.MapTextLemmas.{trim_space}
use Rattle.minidump_memory.proofs.map_text.after_spaces.Goals as goal

pub loop-at-init : goal.loop-at-init
loop-at-init c = record { same = refl; cut = IsCharBoundary-from_drop c.args.text.now 0 (omega arith) c.utf8.text }

pub loop-at-preserved : goal.loop-at-preserved
loop-at-preserved c =
    let text = c.args.text.now in
    let at = c.loop-at.at in
    let lt : at < length text = omega (arith, c.loop-at-test.true, c.as_bytes-byte-items.ensures.len) in
    let here : get_or text at 0 ≡ 32 = rw c.as_bytes-byte-items.ensures.value at c.if-byte-ne32.false in
    let rest : drop at text ≡ 32 ∷ drop (at + 1) text = drop_more text at 0 lt ∙ ap (λ b. b ∷ drop (at + 1) text) here in
    record {
      same = sym (trim_space (drop at text) (drop (at + 1) text) (IsUtf8-drop text at c.utf8.text c.loop-at.invariant.cut) rest) ∙ c.loop-at.invariant.same;
      cut = IsCharBoundary-after_ascii text at c.utf8.text lt (omega (arith, here));
    }
