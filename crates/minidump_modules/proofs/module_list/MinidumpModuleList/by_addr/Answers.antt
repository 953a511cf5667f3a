-- The modules in the order of their addresses, as values.
use Rattle.std.proofs.Common.{refl}
use Rattle.minidump_index.proofs.RegionViews.{by_address}
use Rattle.minidump_modules.specs.Module.{module_of, range_of_module_struct, range_of_module}
use Rattle.minidump_modules.specs.ModuleList.{modules_of}
use Rattle.minidump_modules.proofs.module_list.MinidumpModuleList.by_addr.Goals as goal

pub returns : goal.returns
returns c = by_address module_of range_of_module_struct range_of_module (λ m. refl) (modules_of c.args.self.now) c.by_addr.result c.by_addr.ensures
