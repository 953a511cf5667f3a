-- What is found among the modules is found among their values.
use Rattle.std.proofs.Common.{refl}
use Rattle.std.specs.Option.{option_copied}
use Rattle.minidump_index.proofs.RegionViews.{counted}
use Rattle.minidump_modules.specs.Module.{module_of, range_of_module_struct, range_of_module}
use Rattle.minidump_modules.specs.ModuleList.{modules_of}
use Rattle.minidump_modules.proofs.module_list.MinidumpModuleList.module_at_address_counted.Goals as goal

pub returns : goal.returns
returns c =
    counted module_of range_of_module_struct range_of_module (λ m. refl) (modules_of c.args.self.now) c.args.address c.args.steps.now c.at_address.new.steps
    (option_copied c.at_address.result) c.at_address.ensures
