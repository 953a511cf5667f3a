-- The entry, and the part that it names.
use Rattle.std.proofs.Common.{◌≡◌, ◌+◌, ◌*◌, ◌≤◌, ◌∙◌, refl, arith, length, inr, true}
use Rattle.minidump_bytes.specs.Source.{bytes_of}
use Rattle.minidump_records.proofs.CrashpadLemmas.Each.{at_entry, at_none, gives_missing, gives_same}
use Rattle.minidump_records.proofs.crashpad.part.read_at.Goals as goal

pub returns-in_err-entry-clause-means : goal.returns-in_err-entry-clause-means
returns-in_err-entry-clause-means g c =
    let size : c.SIZE.result ≡ g.E.Record.layout.size = c.SIZE.ensures ∙ g.met.E.Record.fits.same in
    gives_missing _ _ _ _ c.from_residual.ensures.1 tt
    (at_none g.E.Record.layout g.P.Part.part c.args.endian (bytes_of c.args.all) (bytes_of c.args.bytes) c.args.index c.in_err-entry.field-0.0
    (rw (c.record.ensures.value, size) at c.in_err-entry.ensures.value))

pub returns-clause-means : goal.returns-clause-means
returns-clause-means g c =
    let size : c.SIZE.result ≡ g.E.Record.layout.size = c.SIZE.ensures ∙ g.met.E.Record.fits.same in
    let entry = rw (c.record.ensures.value, size) at c.in_ok-entry.ensures.ok_part in
    gives_same _ _ _ _ (λ h. tt)
    (at_entry g.E.Record.layout g.P.Part.part c.args.endian (bytes_of c.args.all) (bytes_of c.args.bytes) c.args.index _ _ entry refl)
    c.read_part.ensures.means

pub returns-clause-within : goal.returns-clause-within
returns-clause-within g c =
    let size : c.SIZE.result ≡ g.E.Record.layout.size = c.SIZE.ensures ∙ g.met.E.Record.fits.same in
    let fits : 4 + c.SIZE.result * c.args.index + g.E.Record.layout.size ≤ length (bytes_of c.args.bytes) =
    c.record.ensures.readable.0 (rw c.in_ok-entry.ensures.ok_part (refl {a = true})) in
    inr (omega (arith, rw size at fits), omega (arith, c.read_part.ensures.within, c.record.ensures.step))
