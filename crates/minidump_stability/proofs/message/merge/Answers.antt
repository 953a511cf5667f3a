-- The bytes are read field by field, and each is put in.
use Rattle.std.proofs.Common.{◌≡◌, ◌++◌, ◌∷◌, [], arith, ap, length}
use Rattle.std.specs.Prelude.{Some}
use Rattle.std.specs.Option.{ok_or}
use Rattle.minidump_format.specs.declared.error.Error.TheVariants.{DataError}
use Rattle.minidump_bytes.specs.Source.{bytes_of}
use Rattle.minidump_bytes.specs.Wire.{field_at, field_of}
use Rattle.minidump_stability.proofs.MergeLemmas.{count_more, gives_error, gives_none, is_there, view_none, view_some}
use Rattle.minidump_stability.proofs.MergeLemmas.{reading_count, reading_end, reading_error, reading_has, reading_more, reading_none, reading_stuck}
use Rattle.minidump_stability.proofs.message.merge.Goals as goal

pub loop-offset-init : goal.loop-offset-init
loop-offset-init g c = record {
  inside = omega arith;
  within = omega arith;
  grows = omega arith;
  read = ([], reading_none g.M.Message.put (g.M.Message.value c.args.old) c.args.bytes.now, omega arith);
}

pub returns-in_err-field-clause-means : goal.returns-in_err-field-clause-means
returns-in_err-field-clause-means g c =
    let size : length (bytes_of c.new-source.result) ≡ length c.args.bytes.now = ap length c.new-source.ensures in
    let none = view_none _ c.wire_field.result _ _ _ (rw c.new-source.ensures at c.wire_field.ensures.value) c.in_err-field.ensures.value in
    let read = c.loop-offset.invariant.read in
    gives_none _ _ _ _ _ c.from_residual.ensures.1
    (reading_stuck g.M.Message.put _ c.args.bytes.now c.loop-offset.offset _ read.0 read.1 (omega (arith, size)) none.0) none.1

pub returns-in_err-message-clause-means : goal.returns-in_err-message-clause-means
returns-in_err-message-clause-means g c =
    let size : length (bytes_of c.new-source.result) ≡ length c.args.bytes.now = ap length c.new-source.ensures in
    let f = field_of c.in_ok-field.field in
    let is : field_at c.loop-offset.offset c.args.bytes.now ≡ Some (f, c.in_ok-field.next) = view_some _ c.wire_field.result _
    (c.in_ok-field.field, c.in_ok-field.next) (rw c.new-source.ensures at c.wire_field.ensures.value) c.in_ok-field.ensures.ok_part in
    let read = c.loop-offset.invariant.read in
    gives_error _ _ _ _ _ _ _ c.from_residual-in_err-message.ensures.1 c.in_err-message.ensures.means
    (reading_has g.M.Message.put _ c.args.bytes.now c.loop-offset.offset _ read.0 read.1 c.in_ok-field.next f is g.M.Message.memory)
    (λ h. reading_error g.M.Message.put _ c.args.bytes.now c.loop-offset.offset _ read.0 read.1 c.in_ok-field.next f (omega (arith, size)) is h)

pub loop-offset-preserved : goal.loop-offset-preserved
loop-offset-preserved g c =
    let f = field_of c.in_ok-field.field in
    let is : field_at c.loop-offset.offset c.args.bytes.now ≡ Some (f, c.in_ok-field.next) = view_some _ c.wire_field.result _
    (c.in_ok-field.field, c.in_ok-field.next) (rw c.new-source.ensures at c.wire_field.ensures.value) c.in_ok-field.ensures.ok_part in
    let inside = rw (c.new-source.ensures, c.in_ok-field.ensures.ok_part) at c.wire_field.ensures.inside in
    let read = c.loop-offset.invariant.read in
    record {
      inside = inside.1;
      within = omega (arith, inside.0, c.put.ensures.within, c.wire_field.ensures.step, c.loop-offset.invariant.within);
      grows = omega (arith, c.put.ensures.grows, c.wire_field.ensures.step, c.loop-offset.invariant.grows);
      read = (
        read.0 ++ f ∷ [],
        reading_more g.M.Message.put _ c.args.bytes.now c.loop-offset.offset _ read.0 read.1 c.in_ok-field.next f is _
            (is_there _ _ _ c.in_ok-message.ensures.means),
        omega (arith, c.in_ok-message.ensures.steps, c.wire_field.ensures.step, read.2, count_more g.M.Message.inside read.0 f),
      );
    }

pub returns-clause-means : goal.returns-clause-means
returns-clause-means g c =
    let size : length (bytes_of c.new-source.result) ≡ length c.args.bytes.now = ap length c.new-source.ensures in
    let read = c.loop-offset.invariant.read in
    ap (λ o. ok_or o DataError)
    (reading_end g.M.Message.put _ c.args.bytes.now c.loop-offset.offset _ read.0 read.1 (omega (arith, size)))

pub returns-clause-steps : goal.returns-clause-steps
returns-clause-steps g c =
    let size : length (bytes_of c.new-source.result) ≡ length c.args.bytes.now = ap length c.new-source.ensures in
    let read = c.loop-offset.invariant.read in
    rw (reading_count g.M.Message.put _ c.args.bytes.now c.loop-offset.offset _ read.0 read.1 g.M.Message.inside (omega (arith, size))) read.2
