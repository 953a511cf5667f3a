-- Each descriptor is kept.
use Rattle.minidump_bytes.specs.Source.{bytes_of}
use Rattle.minidump_system.proofs.KeptLemmas.{kept_mapped}
use Rattle.minidump_records.proofs.HandleLemmas.{given, least_of_items, not_given}
use Rattle.minidump_records.specs.Handles.{handle_in, handle_of, handle_reads}
use Rattle.minidump_records.proofs.handles.data_stream.read_handles.Goals as goal

pub returns-clause-items : goal.returns-clause-items
returns-clause-items g c =
    given _ _ _ _ _ (kept_mapped (λ r. handle_in c.args.endian (bytes_of c.args.all) (g.R.Descriptor.raw r)) c.args.raws) c.read_items.ensures.means

pub returns-clause-some : goal.returns-clause-some
returns-clause-some g c =
    not_given _ _ _ _ _ (kept_mapped (λ r. handle_in c.args.endian (bytes_of c.args.all) (g.R.Descriptor.raw r)) c.args.raws) c.read_items.ensures.means

pub returns-clause-at_least : goal.returns-clause-at_least
returns-clause-at_least g c =
    least_of_items c.read_items.result (λ v. v.items) handle_of _ c.args.raws handle_reads _ _ _ (returns-clause-items g c) c.read_items.ensures.at_least
