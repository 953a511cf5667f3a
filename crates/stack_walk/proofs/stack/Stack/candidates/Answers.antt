-- The link register, the words below the record, and then those from the last frame on.
use Rattle.std.proofs.Common.{ℕ, [], ◌++◌, ◌∙◌, List, ap, arith, sym}
use Rattle.std.specs.BTreeMap.{is_at}
use Rattle.std.specs.List.{cons_option, list_any}
use Rattle.std.specs.Ordering.{nat_cmp}
use Rattle.std.proofs.lemmas.List.{take_all}
use Rattle.stack_walk.specs.declared.frame.StackFrame.{StackFrame}
use Rattle.stack_walk.specs.Found.{has_word}
use Rattle.stack_walk.specs.Frames.{stack_of, word_candidates}
use Rattle.stack_walk.proofs.FoundLemmas.{one_found}
use Rattle.stack_walk.proofs.stack.Stack.candidates.Goals as goal

pub returns : goal.returns
returns c =
    let s = stack_of c.args.self.now in
    let limit = c.args.limit in
    let link = cons_option c.link_candidate.result [] in
    let linked = c.in_ok-add.ensures (λ word.
    ap (λ (keys : List ℕ). list_any (is_at (nat_cmp word)) keys) c.new-2.ensures.empty
    ∙ sym (ap (λ (fs : List StackFrame). has_word fs word) c.new.ensures.items)) in
    let first = one_found limit [] _ _ c.link_candidate.result (c.new.ensures.items ∙ sym (take_all limit [] (omega arith))) linked.1 in
    let low = c.in_ok-add_words.ensures link (record { seen = linked.0; frames = first }) in
    let all = c.in_ok-add_words-2.ensures (link ++ word_candidates s c.words_below.result) low in
    rw (c.link_candidate.ensures, c.words_below.ensures, c.words_above.ensures) at all.frames
