-- The entries of the map, with their indexes.
use Rattle.std.proofs.Common.{rules, ◌≡◌, ◌∙◌, length, string_bytes, sym}
use Rattle.std.proofs.lemmas.Iterator.{YieldsList-from_map_by}
use Rattle.std.proofs.lemmas.Iterator.Consumers.{YieldsList-at, YieldsList-from_enumerate}
use Rattle.std.proofs.lemmas.List.{length-map}
use Rattle.minidump_records.specs.ThreadNames.{ThreadName, thread_name_text, thread_names_of}
use Rattle.minidump_format.proofs.SequenceLemmas.{numbered_by, yields_entries}
use Rattle.minidump_records.proofs.thread_names.MinidumpThreadNames.print.Goals as goal

pub returns : goal.returns
returns g c =
    let count : c.len-count.result ≡ length (thread_names_of c.args.self.now) =
    c.len-count.ensures.len ∙ sym (length-map {B = ThreadName} c.args.self.now.names.entries (λ e. (e.0, string_bytes e.1)))
    in
    numbered_by _ _ _ _ _ _ _ _ thread_name_text (thread_names_of c.args.self.now) _ _
    (YieldsList-from_enumerate (YieldsList-at c.enumerate.ensures.source (YieldsList-from_map_by _ _ thread_name_text
    (YieldsList-at c.map-names.ensures.source (yields_entries (λ e. (e.0, string_bytes e.1)) c.args.self.now.names.entries _ (cc)))
    c.map-names.ensures.closure (λ x r q k. search rules))) c.enumerate.ensures.count)
    count c.print_numbered_all.ensures
