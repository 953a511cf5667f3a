-- The module that is found contains the address.
use Rattle.minidump_modules.proofs.InsideLemmas.{module_inside}
use Rattle.minidump_modules.proofs.module_list.MinidumpModuleList.module_at_address.Goals as goal

pub returns-clause-inside : goal.returns-clause-inside
returns-clause-inside c = module_inside _ c.args.address _ c.module_at_address_counted.ensures.found
