-- The modules with their indexes.
use Rattle.std.proofs.Common.{map}
use Rattle.std.specs.List.{enumerate_from}
use Rattle.minidump_records.specs.Crashpad.{module_of}
use Rattle.minidump_format.proofs.SequenceLemmas.{yields_numbered}
use Rattle.minidump_records.proofs.crashpad.print.print_module_list.Goals as goal

pub returns : goal.returns
returns g c =
    c.print_each_module.ensures (enumerate_from 0 (map module_of c.args.modules.now))
    (yields_numbered module_of c.args.modules.now c.enumerate.result (cc) (cc))
