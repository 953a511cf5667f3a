-- Each field is read at its offset.
use Rattle.std.proofs.Common.{rules}
use Rattle.minidump_format.proofs.format.misc.MINIDUMP_MISC_INFO_2Record.decode.Goals as goal

pub returns : goal.returns
returns c = grind rules
