-- What is found is found among the values.
use Rattle.minidump_modules.proofs.UnloadedViews.{are_at}
use Rattle.minidump_modules.proofs.unloaded_module_list.MinidumpUnloadedModuleList.modules_at_address.Goals as goal

pub returns : goal.returns
returns c = rw (← c.self.view_is, c.new.ensures, c.deref.ensures.value, c.deref-2.ensures.value)
    (are_at c.self.inside.modules.items c.self.inside.order.items c.self.invariant.0 c.args.address)
