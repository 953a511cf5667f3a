-- Each last one is what a search from the end finds.
use Rattle.std.proofs.Common.{reverse, sym, ◌∙◌}
use Rattle.std.specs.Prelude.{find, ◌==◌}
use Rattle.minidump.proofs.ThreadLemmas.{found_is_last, last_is_found}
use Rattle.minidump.proofs.laws.one_last_thread.Goals as goal

pub returns-clause-one : goal.returns-clause-one
returns-clause-one c id threads last other is_last is_other = last_is_found id threads last is_last ∙ sym (last_is_found id threads other is_other)

pub returns-clause-exists : goal.returns-clause-exists
returns-clause-exists c id threads = (find (λ t. t.raw.thread_id == id) (reverse threads), found_is_last id threads)
