-- What is found among the modules is found among their values, with the same index.
use Rattle.std.proofs.Common.{refl}
use Rattle.minidump_index.proofs.NumberedLookup.{numbered_view}
use Rattle.minidump_modules.specs.Module.{module_of, range_of_module, range_of_module_struct}
use Rattle.minidump_modules.specs.ModuleList.{modules_of}
use Rattle.minidump_modules.proofs.module_list.MinidumpModuleList.numbered_module_at_address.Goals as goal

pub returns : goal.returns
returns c =
    numbered_view module_of range_of_module_struct range_of_module (λ m. refl) (λ p. (p.0, p.1.now)) (modules_of c.args.self.now)
    c.args.address c.numbered_at_address.result c.numbered_at_address.ensures
