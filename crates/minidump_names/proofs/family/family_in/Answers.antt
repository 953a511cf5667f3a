-- The name is the next family's, or it is not.
use Rattle.std.proofs.Common.{◌∙◌, refl, sym, arith}
use Rattle.minidump_names.specs.NameLine.{families, family_in}
use Rattle.minidump_names.proofs.FamilyLemmas.{find_here, find_later, find_never}
use Rattle.minidump_names.proofs.family.family_in.Goals as goal

pub loop-family-init : goal.loop-family-init
unfolding family_in families
loop-family-init c = refl

pub returns-then-is_family_name : goal.returns-then-is_family_name
returns-then-is_family_name c =
    sym (c.loop-family.invariant ∙ find_here _ c.loop-family.family-index _ c.args.text.now (omega arith) (sym c.if-is_family_name.ensures))

pub loop-family-preserved : goal.loop-family-preserved
loop-family-preserved c =
    c.loop-family.invariant ∙ find_later _ c.loop-family.family-index _ c.args.text.now (omega arith) (sym c.if-is_family_name.ensures)

pub returns : goal.returns
returns c = sym (c.loop-family.invariant ∙ find_never _ c.loop-family.family-index c.args.text.now (omega arith))
