-- The entries kept are the deciding ones, ascending by type.
use Rattle.std.proofs.Common.{◌∙◌}
use Rattle.minidump_bytes.specs.Source.{bytes_of}
use Rattle.minidump.specs.Directory.{directory}
use Rattle.minidump.proofs.DirectoryLemmas.{deciding_entries_below_is}
use Rattle.minidump.proofs.dump.Minidump.deciding_entries.Goals as goal

pub returns : goal.returns
returns c =
    let d = c.args.self.now in
    c.as_slice.ensures.value ∙ deciding_entries_below_is (directory d.endian (bytes_of d.source) d.header) d.entries.items d.decides
