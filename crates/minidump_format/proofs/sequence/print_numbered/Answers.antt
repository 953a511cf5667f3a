-- The items of a slice.
use Rattle.minidump_format.proofs.SequenceLemmas.{numbered_slice}
use Rattle.minidump_format.proofs.sequence.print_numbered.Goals as goal

pub returns : goal.returns
returns g c = numbered_slice _ _ _ _ _ _ g.T.Pushed.text c.args.items.now _ _ (cc) (cc) (cc) c.print_numbered_all.ensures
