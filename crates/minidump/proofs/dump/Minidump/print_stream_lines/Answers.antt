-- A line for each entry.
use Rattle.std.proofs.Common.{rules, map}
use Rattle.std.proofs.lemmas.Iterator.{YieldsList-from_map_by, YieldsList-from_slice}
use Rattle.std.proofs.lemmas.Iterator.Consumers.{YieldsList-at}
use Rattle.minidump.specs.Dump.{streams_of}
use Rattle.minidump.specs.DumpValue.{dump_of}
use Rattle.minidump.specs.Text.{stream_text}
use Rattle.minidump.proofs.PrintLemmas.{prints_texts}
use Rattle.minidump.proofs.dump.Minidump.print_stream_lines.Goals as goal

pub returns : goal.returns
returns g c =
    let entries = streams_of (dump_of c.args.self.now) in
    prints_texts _ _ _ _ stream_text entries (c.print_all.ensures.prints (map stream_text entries)
    (YieldsList-from_map_by _ _ stream_text (YieldsList-at c.map-lines.ensures.source (YieldsList-from_slice entries (cc)))
    c.map-lines.ensures.closure (λ x r q k. search rules)))
