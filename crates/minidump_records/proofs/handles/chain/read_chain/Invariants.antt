-- The pieces so far are the first of the chain, each with a read, and no more than the file has bytes.
use Rattle.std.proofs.Common.{◌≡◌, ◌+◌, ◌-◌, ◌≤◌, length}
use Rattle.minidump_bytes.specs.Source.{bytes_of}
use Rattle.minidump_bytes.specs.Steps.{after}
use Rattle.minidump_records.specs.Handles.ObjectChain.{last_link}
use Rattle.minidump_records.proofs.HandleLemmas.Chain.{Chaining}
use Rattle.minidump_records.proofs.handles.chain.read_chain.Given as goal

abbrev pub invariant-loop-info : goal.invariant-loop-info
invariant-loop-info l = record {
  chaining : Chaining l.endian (bytes_of l.all) l.link l.offset l.infos.items l.offsets.keys;
  within : l.steps ≤ l.fn.steps + length l.infos.items;
  grows : l.fn.steps ≤ l.steps;
  last : l.offset ≡ last_link l.link l.infos.items;
  least : after l.fn.steps (length l.infos.items) ≤ l.steps;
}

abbrev pub decreases-loop-info : goal.decreases-loop-info
decreases-loop-info l = length (bytes_of l.all) - length l.infos.items
