-- The comparison is with the entry of the number.
use Rattle.std.proofs.Common.{◌-◌, arith}
use Rattle.minidump_index.proofs.StoredLemmas.{in_slot}
use Rattle.minidump_index.proofs.descent.descend.Goals as goal

pub returns-clause-next : goal.returns-clause-next
returns-clause-next g c =
    let is = in_slot g.S.Stored.value c.args.tree.now c.args.address (c.args.number - 1) c.index-tree-number.result c.entry.result
    (omega (arith, c.requires.first, c.requires.last)) c.index-tree-number.is c.entry.ensures in
    (c.entry.result, is, record { left = c.below.ensures.left; here = c.below.ensures.here; right = c.below.ensures.right })
