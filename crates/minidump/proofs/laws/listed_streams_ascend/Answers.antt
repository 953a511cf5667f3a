-- The lemma on the listed entries.
use Rattle.std.proofs.Common.{◌^◌}
use Rattle.minidump.specs.Directory.{directory}
use Rattle.minidump.proofs.LawsLemmas.{streams_ascend}
use Rattle.minidump.proofs.laws.listed_streams_ascend.Goals as goal

pub returns : goal.returns
returns c d = streams_ascend (directory d.order d.file d.header) (2 ^ 32)
