-- One piece of information more: it is new and kept, or the chain ends.
use Rattle.std.proofs.Common.{arith, refl, sym, ◌≡◌, ◌∷◌, [], length-append, false, Some}
use Rattle.std.specs.BTreeSet.{contains}
use Rattle.std.specs.Ordering.{nat_cmp}
use Rattle.minidump_bytes.specs.Source.{bytes_of}
use Rattle.minidump_records.specs.Handles.ObjectChain.{information_at}
use Rattle.minidump_records.proofs.HandleLemmas.Offsets.{was_absent, was_there}
use Rattle.minidump_records.proofs.HandleLemmas.Chain.{chaining_end, chaining_met, chaining_more, chaining_none, chaining_short, last_link-push, nonzero}
use Rattle.minidump_records.proofs.handles.chain.read_chain.Goals as goal
use Rattle.minidump_records.proofs.handles.chain.read_chain.Goals.{in-Some+in_ok-is_new+then-not-branch, in_default}

pub loop-info-init : goal.loop-info-init
loop-info-init c = record {
  chaining = chaining_none _ _ _ _ _ c.new-infos.ensures.items c.new-offsets.ensures.empty;
  within = omega arith;
  grows = omega arith;
  last = rw c.new-infos.ensures.items refl;
  least = rw c.new-infos.ensures.items (omega arith);
}

pub returns-in_err-is_new-clause-within : goal.returns-in_err-is_new-clause-within
returns-in_err-is_new-clause-within c =
    let short = chaining_short _ _ _ _ _ _ c.loop-info.invariant.chaining in omega (arith, short, c.information_at.ensures.within, c.loop-info.invariant.within)

pub returns-in_err-push_piece-clause-within : goal.returns-in_err-push_piece-clause-within
returns-in_err-push_piece-clause-within c =
    let short = chaining_short _ _ _ _ _ _ c.loop-info.invariant.chaining in omega (arith, short, c.information_at.ensures.within, c.loop-info.invariant.within)

pub loop-info-smaller : goal.loop-info-smaller
loop-info-smaller c =
    let is : information_at c.args.endian (bytes_of c.args.all) c.loop-info.offset ≡ Some c.in-Some.info = sym c.in-Some.ensures.value in
    let absent : contains nat_cmp c.loop-info.offsets c.loop-info.offset ≡ false = was_absent _ _ c.in_ok-is_new.ensures.new c.if-not-branch.false in
    let more = chaining_more _ _ _ _ _ _ _ _ is absent c.in_ok-is_new.ensures.keeps c.loop-info.invariant.chaining in
    let short = chaining_short _ _ _ _ _ _ more in
    rw c.in_ok-push_piece.ensures.items (omega (arith, short, length-append c.loop-info.infos.items (c.in-Some.info ∷ [])))

pub loop-info-preserved : goal.loop-info-preserved
loop-info-preserved c =
    let is : information_at c.args.endian (bytes_of c.args.all) c.loop-info.offset ≡ Some c.in-Some.info = sym c.in-Some.ensures.value in
    let absent : contains nat_cmp c.loop-info.offsets c.loop-info.offset ≡ false = was_absent _ _ c.in_ok-is_new.ensures.new c.if-not-branch.false in
    let longer = length-append c.loop-info.infos.items (c.in-Some.info ∷ []) in
    record {
      chaining = rw c.in_ok-push_piece.ensures.items (chaining_more _ _ _ _ _ _ _ _ is absent c.in_ok-is_new.ensures.keeps c.loop-info.invariant.chaining);
      within = rw c.in_ok-push_piece.ensures.items (omega (arith, c.information_at.ensures.within, c.loop-info.invariant.within, longer));
      grows = omega (arith, c.information_at.ensures.grows, c.loop-info.invariant.grows);
      last = rw c.in_ok-push_piece.ensures.items (sym (last_link-push c.args.link c.loop-info.infos.items c.in-Some.info));
      least = rw c.in_ok-push_piece.ensures.items (omega (arith, c.in-Some.ensures.at_least, c.loop-info.invariant.least, longer));
    }

pub returns-clause-infos : goal.returns-clause-infos
returns-clause-infos c = elim c.match-information_at.branch [
  | in-Some+in_ok-is_new+then-not-branch w ↦ chaining_met _ _ _ _ _ _ (nonzero _ _ _ _ (sym w.in-Some.ensures.value))
      (was_there _ _ w.in_ok-is_new.ensures.new w.if-not-branch.true) c.loop-info.invariant.chaining
  | in_default w ↦ chaining_end _ _ _ _ _ _ (rw w.in_default.is at (sym c.information_at.ensures.value)) c.loop-info.invariant.chaining
]

pub returns-clause-within : goal.returns-clause-within
returns-clause-within c =
    let short = chaining_short _ _ _ _ _ _ c.loop-info.invariant.chaining in omega (arith, short, c.information_at.ensures.within, c.loop-info.invariant.within)

pub returns-clause-at_least : goal.returns-clause-at_least
returns-clause-at_least c = rw (← c.loop-info.invariant.last) (omega (arith, c.information_at.ensures.step, c.loop-info.invariant.least))
