-- The entries are more bytes than the file has, or their parts are read.
use Rattle.std.proofs.Common.{◌≡◌, ◌∙◌}
use Rattle.minidump_bytes.specs.Source.{bytes_of}
use Rattle.minidump_records.specs.Crashpad.Parts.{list_of}
use Rattle.minidump_records.proofs.CrashpadLemmas.Each.{tested_parts, too_long}
use Rattle.minidump_records.proofs.crashpad.part.read_list.Goals as goal

pub returns-then-expected-actual-clause-means : goal.returns-then-expected-actual-clause-means
returns-then-expected-actual-clause-means g c =
    let size : c.SIZE.result ≡ g.E.Record.layout.size = c.SIZE.ensures ∙ g.met.E.Record.fits.same in
    rw (size, c.len-actual.ensures) (too_long g.E.Record.layout g.P.Part.part c.args.endian (bytes_of c.args.all) c.args.location
    (list_of (bytes_of c.in_ok-bytes.bytes) c.in_ok-bytes.count) c.in_ok-bytes.ensures.means (rw (size, c.len-actual.ensures) at c.if-expected-actual.true))

pub returns-clause-means : goal.returns-clause-means
returns-clause-means g c =
    let size : c.SIZE.result ≡ g.E.Record.layout.size = c.SIZE.ensures ∙ g.met.E.Record.fits.same in
    rw (
      tested_parts g.E.Record.layout g.P.Part.part c.args.endian (bytes_of c.args.all) c.args.location
          (list_of (bytes_of c.in_ok-bytes.bytes) c.in_ok-bytes.count) c.in_ok-bytes.ensures.means (rw (size, c.len-actual.ensures) at c.if-expected-actual.false),
      c.in_ok-bytes.ensures.means,
    ) c.read_parts.ensures.means
