-- The copies are the same handles as those so far.
use Rattle.std.proofs.Common.{◌≡◌, map, take}
use Rattle.minidump_records.specs.Handles.{handle_of}
use Rattle.minidump_records.proofs.handles.data_stream.MinidumpHandleDataStream.try_clone.Given as goal

abbrev pub invariant-loop-handle : goal.invariant-loop-handle
invariant-loop-handle l = map handle_of l.handles.items ≡ map handle_of (take l.handle-index l.self.handles.items)
