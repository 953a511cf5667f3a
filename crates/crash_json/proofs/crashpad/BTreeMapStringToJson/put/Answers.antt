-- The entries are those of the dictionary.
use Rattle.std.proofs.lemmas.Iterator.Consumers.{YieldsList-from_rest, map_from_collect}
use Rattle.crash_json.proofs.Tokens.{views}
use Rattle.crash_json.proofs.crashpad.BTreeMapStringToJson.put.Goals as goal

pub returns : goal.returns
returns g c =
    let entries = rw c.in_ok-entries.was at (map_from_collect _ c.collect.ensures.ran (YieldsList-from_rest c.args.self.now.entries (cc))) in
    rw (← entries) (simp views c.put.ensures)
