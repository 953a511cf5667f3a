-- The records with their indexes.
use Rattle.std.proofs.Common.{rules, map}
use Rattle.std.specs.List.{enumerate_from}
use Rattle.std.proofs.lemmas.Iterator.{YieldsList-from_map_by}
use Rattle.std.proofs.lemmas.Iterator.Consumers.{YieldsList-at}
use Rattle.std.proofs.lemmas.List.Folds.{flat_map-map}
use Rattle.minidump_format.proofs.SequenceLemmas.{yields_numbered}
use Rattle.minidump_records.specs.MacCrashInfo.Record.{mac_record_of}
use Rattle.minidump_records.specs.MacCrashInfo.Text.{record_text}
use Rattle.minidump_records.proofs.mac_crash_info.print.print_records.Goals as goal

pub returns : goal.returns
returns g c =
    let all = enumerate_from 0 (map mac_record_of c.args.records.now) in
    rw (← flat_map-map (λ t. t) record_text all) (c.print_all.ensures.prints (map record_text all)
    (YieldsList-from_map_by _ _ record_text
    (YieldsList-at c.map-texts.ensures.source (yields_numbered mac_record_of c.args.records.now _ (cc) (cc)))
    c.map-texts.ensures.closure (λ x r q k. search rules)))
