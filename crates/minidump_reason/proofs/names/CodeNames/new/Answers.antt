-- The first error, and one more valid list.
use Rattle.std.proofs.Common.{refl, sym, arith}
use Rattle.std.proofs.lemmas.Option.{slice_get-get_or}
use Rattle.minidump_reason.proofs.NamesLemmas.{family_there, family_missing, family_absent, names_more}
use Rattle.minidump_reason.proofs.names.CodeNames.new.Goals as goal

pub returns-then-has_family : goal.returns-then-has_family
returns-then-has_family c = record {
  index = c.loop-index.index;
  family = _;
  entries = _;
  there = slice_get-get_or c.args.lists.now c.loop-index.index _ (omega arith);
  before = c.loop-index.invariant;
  error = (refl, family_there _ _ (sym c.if-has_family.ensures));
}

pub returns-then-not-is_ascending : goal.returns-then-not-is_ascending
returns-then-not-is_ascending c = record {
  index = c.loop-index.index;
  family = _;
  entries = _;
  there = slice_get-get_or c.args.lists.now c.loop-index.index _ (omega arith);
  before = c.loop-index.invariant;
  error = (refl, family_missing _ _ (sym c.if-has_family.ensures), c.if-not-is_ascending.ensures);
}

pub loop-index-preserved : goal.loop-index-preserved
loop-index-preserved c =
    names_more c.args.lists.now c.loop-index.index _ (omega arith) c.loop-index.invariant (family_absent _ _ (sym c.if-has_family.ensures))
    c.if-not-is_ascending.ensures
