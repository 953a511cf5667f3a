-- Of candidates with one return address the first is kept alone.
use Rattle.stack_walk.proofs.FoundLemmas.{distinct_firsts}
use Rattle.stack_walk.proofs.laws.each_return_address_is_once.Goals as goal

pub returns : goal.returns
returns c s link frames limit = distinct_firsts limit _
