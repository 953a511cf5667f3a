-- The last exception is that of the deciding entry.
use Rattle.minidump.proofs.ExceptionLemmas.{last_is_the_stream}
use Rattle.minidump.proofs.laws.last_exception_is_the_stream.Goals as goal

pub returns : goal.returns
returns c = last_is_the_stream
