-- The order of unloaded modules is that of their values.
use Rattle.std.proofs.Common.{ℕ, List, map, refl, subst, sym}
use Rattle.std.specs.Prelude.{Option, filter}
use Rattle.minidump_index.specs.declared.range.Range.{Range}
use Rattle.minidump_index.proofs.RegionViews.{same_ranges, views_at}
use Rattle.minidump_modules.specs.declared.unloaded_module.MinidumpUnloadedModule.{MinidumpUnloadedModule}
use Rattle.minidump_modules.specs.declared.unloaded_order.IndexedRange.{IndexedRange}
use Rattle.minidump_modules.specs.UnloadedModule.{unloaded_of, range_of_unloaded_struct, range_of_unloaded}
use Rattle.minidump_modules.specs.UnloadedModuleList.{unloaded_module_list_of}
use Rattle.minidump_modules.specs.UnloadedOrder.{AreAt, IsByStart, IsOrderOf, has, modules_of_order}

module _ (modules : List MinidumpUnloadedModule) (order : List IndexedRange) (is : IsOrderOf (map range_of_unloaded_struct modules) order) where
  as_values : IsOrderOf (map range_of_unloaded (unloaded_module_list_of modules)) order
  as_values = subst (λ (ranges : List (Option Range)). IsOrderOf ranges order)
      (sym (same_ranges unloaded_of range_of_unloaded_struct range_of_unloaded (λ m. refl) modules)) is

  -- all of them
  pub by_start : IsByStart (unloaded_module_list_of modules) (map unloaded_of (modules_of_order modules order))
  by_start = (order, as_values, sym (views_at unloaded_of modules (map (λ e. e.index) order)))

  -- those that contain an address
  pub are_at : (address : ℕ) → AreAt (unloaded_module_list_of modules) address (map unloaded_of (modules_of_order modules (filter (has address) order)))
  are_at address = (order, as_values, sym (views_at unloaded_of modules (map (λ e. e.index) (filter (has address) order))))
