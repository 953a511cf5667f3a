-- The first thread of an id from the end on is the last one.
use Rattle.std.proofs.Common.{ap, map, subst, sym, ◌≡◌, ◌∙◌}
use Rattle.std.specs.Prelude.{◌==◌}
use Rattle.std.specs.Option.{option_copied, option_map}
use Rattle.minidump.specs.Thread.{IsLastThread, last_with, thread_of}
use Rattle.minidump.proofs.ThreadLemmas.{found_is_last, last_seen}
use Rattle.minidump.proofs.thread_list.MinidumpThreadList.get_thread.Goals as goal

pub returns-clause-answer : goal.returns-clause-answer
returns-clause-answer c =
    ap (option_map thread_of) c.first_from_the_end.ensures ∙ last_seen thread_of (λ t. t.raw.thread_id == c.args.id) c.args.self.now.threads.items

pub returns-clause-last : goal.returns-clause-last
returns-clause-last c =
    let threads = map thread_of c.args.self.now.threads.items in
    let is : option_map thread_of (option_copied c.first_from_the_end.result) ≡ last_with c.args.id threads = returns-clause-answer c in
    subst (IsLastThread c.args.id threads) (sym is) (found_is_last c.args.id threads)
