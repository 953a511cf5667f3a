-- The texts with their indexes.
use Rattle.std.proofs.Common.{rules, map, string_bytes}
use Rattle.std.specs.List.{enumerate_from}
use Rattle.std.proofs.lemmas.Iterator.{YieldsList-from_map_by}
use Rattle.std.proofs.lemmas.Iterator.Consumers.{YieldsList-at}
use Rattle.std.proofs.lemmas.List.Folds.{flat_map-map}
use Rattle.minidump_format.proofs.SequenceLemmas.{yields_numbered}
use Rattle.minidump_records.specs.Crashpad.Text.{list_line}
use Rattle.minidump_records.proofs.crashpad.print.print_list.Goals as goal

pub returns : goal.returns
returns g c =
    let line = list_line c.args.index in
    let all = enumerate_from 0 (map string_bytes c.args.texts.now) in
    rw (← flat_map-map (λ t. t) line all) (c.print_all.ensures.prints (map line all)
    (YieldsList-from_map_by _ _ line
    (YieldsList-at c.map-lines.ensures.source (yields_numbered string_bytes c.args.texts.now _ (cc) (cc)))
    c.map-lines.ensures.closure (λ x r q k. search rules)))
