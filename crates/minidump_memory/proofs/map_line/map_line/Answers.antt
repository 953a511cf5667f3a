-- The fields are the same, whether they are cut first or read one after the other.
use Rattle.std.proofs.Common.{◌≡◌, ◌==◌, ◌∙◌, false, sym}
use Rattle.std.specs.Prelude.{slice_index}
use Rattle.std.specs.List.{list_any}
use Rattle.minidump_memory.proofs.TurnLemmas.{fields_are_in_turn}
use Rattle.minidump_memory.specs.MapLine.{is_capital, map_line}
use Rattle.minidump_memory.proofs.map_line.map_line.Goals as goal

pub returns : goal.returns
unfolding map_line
returns c =
    let text = c.in_ok-text.text.now in
    let no_feed : list_any (λ b. b == 10) text ≡ false = rw c.as_bytes.ensures.value at (sym c.has_line_feed.ensures ∙ c.if-has_line_feed.false) in
    let no_capital : is_capital (slice_index text 0) ≡ false =
    rw c.as_bytes-2.ensures.value at (sym c.begins_with_capital.ensures ∙ c.if-begins_with_capital.false) in
    rw (← c.in_ok-text.ensures, no_feed, no_capital) (c.fields_in_turn.ensures ∙ sym (fields_are_in_turn text))
