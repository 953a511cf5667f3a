-- What is read with the system information handed in is that information, or it has the same error.
use Rattle.std.proofs.Common.{ap}
use Rattle.std.specs.Result.{result_ok}
use Rattle.minidump.proofs.SystemLemmas.{own_system_is}
use Rattle.minidump.proofs.laws.system_information_is_the_dumps.Goals as goal

pub returns : goal.returns
returns c d = ap result_ok (own_system_is d)
