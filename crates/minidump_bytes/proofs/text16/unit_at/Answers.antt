-- The code unit of an index is the record of that index.
use Rattle.std.proofs.Common.{◌∙◌, sym, arith}
use Rattle.std.proofs.lemmas.List.FromFn.{get_or-map-range_with_len}
use Rattle.minidump_bytes.specs.Entries.{entries, entry}
use Rattle.minidump_bytes.specs.Layout.{number_layout}
use Rattle.minidump_bytes.proofs.text16.unit_at.Goals as goal

pub returns : goal.returns
unfolding entries
returns c =
    c.record_in.ensures
    ∙ sym (get_or-map-range_with_len
    (entry (number_layout 2) c.args.endian c.args.bytes.now c.args.offset) 0 c.args.count c.args.at c.args.at 0 c.requires.index (omega arith))
