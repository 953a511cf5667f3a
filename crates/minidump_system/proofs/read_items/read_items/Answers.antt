-- One entry more: its item is read, skipped, or an error.
use Rattle.std.proofs.Common.{◌<◌, arith, length}
use Rattle.std.proofs.lemmas.List.{map_push}
use Rattle.std.proofs.lemmas.List.Sums.{sum_by_more}
use Rattle.minidump_bytes.specs.Source.{bytes_of}
use Rattle.minidump_bytes.proofs.ListLemmas.{sum_pushed}
use Rattle.minidump_format.proofs.AnswerLemmas.{gives_exit}
use Rattle.minidump_system.proofs.KeptLemmas.{kept_next, kept_none, kept_skip, kept_error}
use Rattle.minidump_system.proofs.read_items.read_items.Goals as goal
use Rattle.minidump_system.proofs.read_items.read_items.Goals.{in-Some+in_ok-push, in_default}

pub loop-index-init : goal.loop-index-init
loop-index-init g c = record {
  items = rw c.in_ok-items.ensures.items (kept_none (g.L.ReadEntry.entry_value c.args.reader.now c.args.endian (bytes_of c.args.all)));
  within = omega arith;
  grows = omega arith;
  least = rw c.in_ok-items.ensures.items (omega arith);
}

pub returns-in_err-item-clause-means : goal.returns-in_err-item-clause-means
returns-in_err-item-clause-means g c =
    let inside : c.loop-index.index < length c.args.entries = omega (arith, c.loop-index-test.true, c.len-index-end.ensures) in
    gives_exit _ _ _ _ _ c.from_residual-in_err-item.ensures.1 (λ h. omega (arith, inside)) c.in_err-item.ensures.means
    (kept_error _ _ _ _ inside c.read-raw.ensures.value _ _ c.loop-index.invariant.items)

pub loop-index-preserved : goal.loop-index-preserved
loop-index-preserved g c =
    let xs = c.args.entries in
    let i = c.loop-index.index in
    let raw = c.read-raw.result in
    let inside : i < length xs = omega (arith, c.loop-index-test.true, c.len-index-end.ensures) in
    let item = c.read-raw.ensures.value in
    let more = sum_by_more g.L.ReadEntry.fewest xs i raw inside in
    elim c.match-branch-3.branch [
      | in-Some+in_ok-push w ↦ rw w.items-is (record {
        items = rw (w.in_ok-push.ensures.items, map_push g.L.ReadEntry.value)
            (kept_next _ xs i raw inside item _ _ c.loop-index.invariant.items (rw w.in-Some.is at c.in_ok-item.ensures.means));
        within = omega (arith, c.read-raw.ensures.step, c.in_ok-item.ensures.within, c.loop-index.invariant.within);
        grows = omega (arith, c.read-raw.ensures.step, c.in_ok-item.ensures.grows, c.loop-index.invariant.grows);
        least = rw (more, item, w.in_ok-push.ensures.items, sum_pushed g.L.ReadEntry.fewest_of g.L.ReadEntry.value c.loop-index.items.items w.in-Some.item)
            (omega (arith, c.read-raw.ensures.step, rw w.in-Some.is at c.in_ok-item.ensures.at_least, c.loop-index.invariant.least));
      })
      | in_default w ↦ rw w.items-is (record {
        items = kept_skip _ xs i raw inside item _ c.loop-index.invariant.items (rw w.in_default.is at c.in_ok-item.ensures.means);
        within = omega (arith, c.read-raw.ensures.step, c.in_ok-item.ensures.within, c.loop-index.invariant.within);
        grows = omega (arith, c.read-raw.ensures.step, c.in_ok-item.ensures.grows, c.loop-index.invariant.grows);
        least = rw (more, item) (omega (arith, c.read-raw.ensures.step, c.in_ok-item.ensures.at_least, c.loop-index.invariant.least));
      })
    ]
