-- The lemmas on the listed entries.
use Rattle.std.proofs.Common.{◌^◌}
use Rattle.minidump.specs.Directory.{directory}
use Rattle.minidump.proofs.LawsLemmas.{streams_decide, streams_have}
use Rattle.minidump.proofs.laws.listed_streams_decide.Goals as goal

pub returns-clause-each : goal.returns-clause-each
returns-clause-each c d = streams_decide (directory d.order d.file d.header) (2 ^ 32)

pub returns-clause-all : goal.returns-clause-all
returns-clause-all c d = streams_have (directory d.order d.file d.header) (2 ^ 32)
