-- One entry more: the part that it names is read, or is an error.
use Rattle.std.proofs.Common.{◌+◌, refl, arith}
use Rattle.std.proofs.lemmas.List.{length-append, map_push}
use Rattle.minidump_bytes.proofs.ListLemmas.{sum_pushed}
use Rattle.minidump_bytes.specs.Source.{bytes_of}
use Rattle.minidump_records.specs.Crashpad.Parts.{each, part_at}
use Rattle.minidump_format.proofs.AnswerLemmas.{gives_exit}
use Rattle.minidump_records.proofs.CrashpadLemmas.Each.{each-none, each-more, each-error, within_entry, within_more}
use Rattle.minidump_records.proofs.crashpad.part.read_parts.Goals as goal

pub loop-i-init : goal.loop-i-init
loop-i-init g c = record {
  parts = rw (each-none, c.new-parts.ensures.items) refl;
  few = rw c.new-parts.ensures.items (omega arith);
  within = omega arith;
  room = omega arith;
  grows = omega arith;
  least = rw c.new-parts.ensures.items (omega arith);
}

pub returns-in_err-part-clause-means : goal.returns-in_err-part-clause-means
returns-in_err-part-clause-means g c =
    let read = part_at g.E.Record.layout g.P.Part.part c.args.endian (bytes_of c.args.all) (bytes_of c.args.bytes) in
    gives_exit _ _ _ (read c.loop-i.i) (each read c.args.count) c.from_residual.ensures.1 (λ h. omega (arith, c.loop-i-test.true)) c.in_err-part.ensures.means
    (λ h. each-error read c.loop-i.i c.args.count _ _ c.loop-i-test.true c.loop-i.invariant.parts h)

pub returns-in_err-part-clause-within : goal.returns-in_err-part-clause-within
returns-in_err-part-clause-within g c = within_entry _ _ _ _ _ _ _ c.loop-i.invariant.room c.loop-i.invariant.within c.read_at.ensures.within

pub returns-in_err-push-clause-within : goal.returns-in_err-push-clause-within
returns-in_err-push-clause-within g c = within_entry _ _ _ _ _ _ _ c.loop-i.invariant.room c.loop-i.invariant.within c.read_at.ensures.within

pub loop-i-preserved : goal.loop-i-preserved
loop-i-preserved g c =
    let read = part_at g.E.Record.layout g.P.Part.part c.args.endian (bytes_of c.args.all) (bytes_of c.args.bytes) in
    record {
      parts = rw (c.in_ok-push.ensures.items, map_push) (each-more read c.loop-i.i _ _ c.loop-i.invariant.parts c.in_ok-part.ensures.means);
      within = within_more _ _ _ _ _ _ _ c.loop-i.invariant.within c.read_at.ensures.within;
      few = rw (c.in_ok-push.ensures.items, length-append) (omega (arith, c.loop-i.invariant.few));
      room = c.in_ok-part.ensures.inside;
      grows = omega (arith, c.read_at.ensures.grows, c.loop-i.invariant.grows);
      least =
          rw (c.in_ok-push.ensures.items, sum_pushed (λ p. 1 + g.P.Part.fewest p) g.P.Part.value c.loop-i.parts.items c.in_ok-part.part)
          (omega (arith, c.in_ok-part.ensures.at_least, c.loop-i.invariant.least));
    }
