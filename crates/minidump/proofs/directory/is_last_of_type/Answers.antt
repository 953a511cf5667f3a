-- There is none after the last entry.
use Rattle.std.proofs.Common.{arith, false, ◌≡◌, ◌+◌, length, nat_lt}
use Rattle.std.proofs.lemmas.Bool.Decides.{nat_tests}
use Rattle.minidump.proofs.DirectoryLemmas.{ends_at_end}
use Rattle.minidump.proofs.directory.is_last_of_type.Goals as goal

pub returns-in-None : goal.returns-in-None
returns-in-None c =
    let none : false ≡ nat_lt (c.args.index + 1) (length c.args.entries.now) = c.in-None.ensures.lookup.0 in
    ends_at_end c.args.entries.now c.args.index (grind (arith, nat_tests, none))
