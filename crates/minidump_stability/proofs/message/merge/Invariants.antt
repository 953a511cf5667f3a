-- How far a message is read.
use Rattle.std.proofs.Common.{◌≡◌, ◌+◌, ◌-◌, ◌≤◌, List, length}
use Rattle.minidump_bytes.specs.Steps.{after}
use Rattle.minidump_bytes.specs.Wire.{Field}
use Rattle.minidump_stability.specs.Fields.{field_count}
use Rattle.minidump_stability.proofs.MergeLemmas.{Reading}
use Rattle.minidump_stability.proofs.message.merge.Given as goal

abbrev pub invariant-loop-offset : goal.invariant-loop-offset
invariant-loop-offset g l = record {
  inside : l.offset ≤ length l.bytes;
  within : l.steps ≤ l.fn.steps + l.offset;
  grows : l.fn.steps ≤ l.steps;
  read : (fields : List Field) × Reading g.M.Message.put (g.M.Message.value l.fn.old) l.bytes l.offset (g.M.Message.value l.message) fields
      × (l.steps ≡ after l.fn.steps (field_count g.M.Message.inside fields));
}

abbrev pub decreases-loop-offset : goal.decreases-loop-offset
decreases-loop-offset g l = length l.bytes - l.offset
