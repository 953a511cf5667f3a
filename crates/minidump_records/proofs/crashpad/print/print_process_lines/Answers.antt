-- The entries of the map, with their texts.
use Rattle.std.proofs.Common.{rules, map, string_bytes}
use Rattle.std.proofs.lemmas.Iterator.{YieldsList-from_map_by}
use Rattle.std.proofs.lemmas.Iterator.Consumers.{YieldsList-at}
use Rattle.std.proofs.lemmas.List.Folds.{flat_map-map}
use Rattle.minidump_format.proofs.SequenceLemmas.{yields_entries}
use Rattle.minidump_records.specs.Crashpad.Dictionary.{entries_of}
use Rattle.minidump_records.specs.Crashpad.Text.{process_line}
use Rattle.minidump_records.proofs.crashpad.print.print_process_lines.Goals as goal

pub returns : goal.returns
returns g c =
    let line = process_line in
    let all = entries_of string_bytes c.args.texts.now.entries in
    rw (← flat_map-map (λ t. t) line all) (c.print_all.ensures.prints (map line all)
    (YieldsList-from_map_by _ _ line
    (YieldsList-at c.map-lines.ensures.source (yields_entries (λ e. (string_bytes e.0, string_bytes e.1)) c.args.texts.now.entries _ (cc)))
    c.map-lines.ensures.closure (λ x r q k. search rules)))
