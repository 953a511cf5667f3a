-- No record yet, and one record more: it is kept, it is left out, or it is an error.
use Rattle.std.proofs.Common.{◌∷◌, [], arith, length-append, map}
use Rattle.std.proofs.lemmas.List.{drop_all, map_push}
use Rattle.std.proofs.lemmas.List.Sums.{sum_by_push}
use Rattle.minidump_bytes.specs.Source.{bytes_of}
use Rattle.minidump_format.proofs.AnswerLemmas.{gives_exit}
use Rattle.minidump_records.specs.MacCrashInfo.Record.{mac_record_of, record_reads}
use Rattle.minidump_records.proofs.MacLemmas.{all_left, left_end, left_none, left_error, left_some}
use Rattle.minidump_records.proofs.mac_crash_info.read_records.Goals as goal
use Rattle.minidump_records.proofs.mac_crash_info.read_records.Goals.{in-Some+in_ok-push, in_default}

pub loop-location-init : goal.loop-location-init
loop-location-init c = record {
  whole = rw c.in_ok-records.ensures.items (all_left c.args.endian (bytes_of c.args.all) c.args.start c.args.locations.now);
  few = rw c.in_ok-records.ensures.items (omega arith);
  within = omega arith;
  grows = omega arith;
  least = rw c.in_ok-records.ensures.items (omega arith);
}

pub returns-in_err-version-clause-means : goal.returns-in_err-version-clause-means
returns-in_err-version-clause-means c =
    gives_exit _ _ _ _ _ c.from_residual-in_err-version.ensures.1 (λ h. omega (arith, c.loop-location-test.true)) c.in_err-version.ensures.means
    (λ h. left_error c.args.endian (bytes_of c.args.all) c.args.start _ _ _ c.args.locations.now c.loop-location.location-index _
    c.loop-location-test.true c.loop-location.invariant.whole _ h)

pub loop-location-preserved : goal.loop-location-preserved
loop-location-preserved c = elim c.match-record.branch [
  | in-Some+in_ok-push w ↦ rw (w.records-is, w.in_ok-push.ensures.items, map_push) (record {
    whole =
        left_some c.args.endian (bytes_of c.args.all) c.args.start _ _ _ c.args.locations.now c.loop-location.location-index _
        c.loop-location-test.true c.loop-location.invariant.whole
        _ _ c.in_ok-version.ensures.version (rw w.in-Some.is at c.in_ok-version.ensures.means);
    few = omega (arith, length-append c.loop-location.records.items (w.in-Some.record ∷ []), c.loop-location.invariant.few);
    within = omega (arith, c.read_located.ensures.within, c.loop-location.invariant.within);
    grows = omega (arith, c.read_located.ensures.grows, c.loop-location.invariant.grows);
    least = rw (sum_by_push record_reads (map mac_record_of c.loop-location.records.items) (mac_record_of w.in-Some.record))
        (omega (arith, rw w.in-Some.is at c.in_ok-version.ensures.at_least, c.loop-location.invariant.least));
  })
  | in_default w ↦ rw w.records-is (record {
    whole =
        left_none c.args.endian (bytes_of c.args.all) c.args.start _ _ _ c.args.locations.now c.loop-location.location-index _
        c.loop-location-test.true c.loop-location.invariant.whole
        _ c.in_ok-version.ensures.version (rw w.in_default.is at c.in_ok-version.ensures.means);
    few = omega (arith, c.loop-location.invariant.few);
    within = omega (arith, c.read_located.ensures.within, c.loop-location.invariant.within);
    grows = omega (arith, c.read_located.ensures.grows, c.loop-location.invariant.grows);
    least = omega (arith, rw w.in_default.is at c.in_ok-version.ensures.at_least, c.loop-location.invariant.least);
  })
]

pub returns-clause-means : goal.returns-clause-means
returns-clause-means c =
    left_end c.args.endian (bytes_of c.args.all) c.args.start _ _ _ _ (drop_all c.loop-location.location-index c.args.locations.now
    c.loop-location-test.false) c.loop-location.invariant.whole
