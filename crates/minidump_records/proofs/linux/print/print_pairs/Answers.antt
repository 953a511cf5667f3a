-- The pairs of the text.
use Rattle.std.proofs.Common.{rules, [], ◌∙◌, map}
use Rattle.std.proofs.lemmas.Iterator.{YieldsList-from_map_by}
use Rattle.std.proofs.lemmas.Iterator.Consumers.{YieldsList-at, YieldsList-from_first}
use Rattle.std.proofs.lemmas.List.Folds.{flat_map-map}
use Rattle.minidump_bytes.specs.LinuxOsStr.{parts_of}
use Rattle.minidump_records.specs.Linux.Pairs.{pairs_of}
use Rattle.minidump_records.specs.Linux.Text.{pair_line}
use Rattle.minidump_records.proofs.linux.print.print_pairs.Goals as goal

pub returns-clause-prints : goal.returns-clause-prints
returns-clause-prints g c =
    let all = pairs_of c.args.separator c.args.text.now in
    rw (← flat_map-map (λ t. t) pair_line all) (c.print_all.ensures.prints (map pair_line all)
    (YieldsList-from_map_by _ _ pair_line (YieldsList-at c.map.ensures.source (YieldsList-from_first parts_of (λ left. left) all c.new-pairs.ensures))
    c.map.ensures.closure (λ x r q k. search rules)))

pub returns-clause-none : goal.returns-clause-none
returns-clause-none g c = λ none. c.print_all.ensures.none
    (YieldsList-from_map_by _ _ pair_line
    (YieldsList-at c.map.ensures.source (YieldsList-from_first parts_of (λ left. left) [] (c.new-pairs.ensures ∙ none)))
    c.map.ensures.closure (λ x r q k. search rules))
