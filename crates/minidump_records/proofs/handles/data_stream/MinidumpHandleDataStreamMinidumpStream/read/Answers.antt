-- The handles of either layout, and their reads.
use Rattle.std.proofs.Common.{length, arith}
use Rattle.minidump_bytes.specs.Source.{bytes_of}
use Rattle.minidump_records.proofs.HandleLemmas.{handles_steps}
use Rattle.minidump_records.proofs.handles.data_stream.MinidumpHandleDataStreamMinidumpStream.read.Goals as goal
use Rattle.minidump_records.proofs.handles.data_stream.MinidumpHandleDataStreamMinidumpStream.read.Goals.{in-Short+in_ok-handles-in-Short}
use Rattle.minidump_records.proofs.handles.data_stream.MinidumpHandleDataStreamMinidumpStream.read.Goals.{in-Long+in_ok-handles-in-Long}

pub returns-clause-within : goal.returns-clause-within
returns-clause-within c = elim c.match-branch-2.branch [
  | in-Short+in_ok-handles-in-Short w ↦ rw w.steps-is (handles_steps c.args.steps.now c.handle_entries.new.steps _ _ (length (bytes_of c.args.bytes))
      (length (bytes_of c.args.all)) _
      (omega arith) (omega arith) (rw w.in-Short.is at c.in_ok-raws.ensures.size)
      (omega (arith, c.handle_entries.ensures.step)) w.read_handles.ensures.within)
  | in-Long+in_ok-handles-in-Long w ↦ rw w.steps-is (handles_steps c.args.steps.now c.handle_entries.new.steps _ _ (length (bytes_of c.args.bytes))
      (length (bytes_of c.args.all)) _
      (omega arith) (omega arith) (rw w.in-Long.is at c.in_ok-raws.ensures.size)
      (omega (arith, c.handle_entries.ensures.step)) w.read_handles-in-Long.ensures.within)
]
