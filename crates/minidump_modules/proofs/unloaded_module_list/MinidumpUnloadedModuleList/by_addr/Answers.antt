-- The order is that of the values.
use Rattle.minidump_modules.proofs.UnloadedViews.{by_start}
use Rattle.minidump_modules.proofs.unloaded_module_list.MinidumpUnloadedModuleList.by_addr.Goals as goal

pub returns : goal.returns
returns c = rw (← c.self.view_is, c.new.ensures, c.deref.ensures.value, c.deref-2.ensures.value)
    (by_start c.self.inside.modules.items c.self.inside.order.items c.self.invariant.0)
