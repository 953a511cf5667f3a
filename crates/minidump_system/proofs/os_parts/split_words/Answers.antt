-- The pieces that the split gives, collected.
use Rattle.std.proofs.Common.{lit<}
use Rattle.std.proofs.lemmas.Iterator.Consumers.{map_from_collect}
use Rattle.std.proofs.lemmas.Iterator.Splits.{YieldsList-from_str_split}
use Rattle.minidump_system.specs.OsParts.{words_of}
use Rattle.minidump_system.proofs.os_parts.split_words.Goals as goal

pub returns : goal.returns
unfolding words_of
returns c =
    map_from_collect _ c.collect.ensures.ran
    (YieldsList-from_str_split 32 c.args.text.now (lit< tt) c.split.ensures.text c.split.ensures.has_more c.split.ensures.pattern)
