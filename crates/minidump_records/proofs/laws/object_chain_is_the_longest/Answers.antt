-- The offsets are the longest chain, and a piece stands at each.
use Rattle.minidump_records.specs.Handles.{chain_offsets, object_chain}
use Rattle.minidump_records.specs.Handles.ObjectChain.{information_at, next_of}
use Rattle.minidump_records.proofs.HandleLemmas.Offsets.{none_skipped}
use Rattle.minidump_records.proofs.HandleLemmas.OneObjectChain.{is_object_chain}
use Rattle.minidump_records.proofs.laws.object_chain_is_the_longest.Goals as goal

pub returns-clause-offsets : goal.returns-clause-offsets
returns-clause-offsets c = is_object_chain

pub returns-clause-pieces : goal.returns-clause-pieces
unfolding object_chain
returns-clause-pieces c = λ order file link.
    none_skipped (information_at order file) next_of link (chain_offsets order file link) (is_object_chain order file link).follow
