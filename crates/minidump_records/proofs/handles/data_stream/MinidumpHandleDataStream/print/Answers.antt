-- The text of the handles is that of the items.
use Rattle.std.specs.Prelude.{codes}
use Rattle.minidump_records.specs.Handles.{handle_of, handle_text}
use Rattle.minidump_format.proofs.NumberedLemmas.{numbered_list_map}
use Rattle.minidump_records.proofs.handles.data_stream.MinidumpHandleDataStream.print.Goals as goal

pub returns : goal.returns
returns g c =
    rw (
      numbered_list_map (codes "MinidumpHandleDataStream\n  handle_count = ") (codes "handle") handle_text handle_of c.args.self.now.handles.items,
      ← c.as_slice.ensures.value,
    ) c.print_numbered.ensures
