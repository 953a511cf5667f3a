-- What was found in the entries so far, and what is in those that are left, is all.
use Rattle.std.proofs.Common.{◌≡◌, ◌++◌, drop}
use Rattle.std.specs.List.{enumerate_from, filter_map}
use Rattle.crash_process.specs.Modules.{unreadable_among, unreadable_in}
use Rattle.crash_process.proofs.unreadable_modules.unreadable_among.Given as goal

abbrev pub invariant-loop-index : goal.invariant-loop-index
invariant-loop-index l = l.modules.items ++ filter_map (unreadable_in l.endian l.file) (enumerate_from l.index (drop l.index l.entries))
    ≡ unreadable_among l.endian l.file l.entries
