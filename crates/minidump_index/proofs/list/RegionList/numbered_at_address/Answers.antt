-- The index that a lookup finds is one of the list's.
use Rattle.std.proofs.Common.{arith}
use Rattle.minidump_index.proofs.LookupLemmas.{found_within}
use Rattle.minidump_index.proofs.NumberedLookup.{numbered_none, numbered_some}
use Rattle.minidump_index.proofs.list.RegionList.numbered_at_address.Goals as goal

pub returns-in_err-index : goal.returns-in_err-index
returns-in_err-index g c =
    rw (← c.self.view_is, c.from_residual.ensures) (numbered_none g.R.Region.range _ c.self.inside.index _ c.self.invariant c.in_err-index.ensures.found)

pub index-requires : goal.index-requires
index-requires g c =
    let h = found_within g.R.Region.range _ c.self.inside.index _ _ c.self.invariant c.in_ok-index.ensures.found in omega (arith, h)

pub returns : goal.returns
returns g c =
    rw (← c.self.view_is)
    (numbered_some g.R.Region.range _ c.self.inside.index _ c.self.invariant _ _ c.in_ok-index.ensures.found c.index.ensures)
