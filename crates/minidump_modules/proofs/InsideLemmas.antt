-- The module that is found at an address contains it.
use Rattle.std.proofs.Common.{ℕ, ◌<◌, ◌≤◌, ◌+◌, List, Bor}
use Rattle.std.specs.Prelude.{Option, Some, None, IfSome}
use Rattle.std.specs.Option.{option_copied, option_map}
use Rattle.minidump_index.specs.Lookup.{IsLookedUp}
use Rattle.minidump_index.proofs.FoundInside.{found_inside}
use Rattle.minidump_modules.specs.declared.module.MinidumpModule.{MinidumpModule}
use Rattle.minidump_modules.specs.Module.{ModuleValue, module_of, range_of_module}

value_inside : (modules : List ModuleValue) (address : ℕ) (found : Option ModuleValue) → IsLookedUp range_of_module modules address found
    → IfSome found (λ m. (m.raw.base_of_image ≤ address) × (address < m.raw.base_of_image + m.raw.size_of_image))
value_inside modules address found is = found_inside (λ m. m.raw.base_of_image) (λ m. m.raw.size_of_image) modules address found is

pub module_inside : (modules : List ModuleValue) (address : ℕ) (found : Option (Bor MinidumpModule))
    → IsLookedUp range_of_module modules address (option_map module_of (option_copied found))
    → IfSome found (λ m. (m.now.raw.base_of_image ≤ address) × (address < m.now.raw.base_of_image + m.now.raw.size_of_image))
module_inside modules address None is = tt
module_inside modules address (Some m) is = value_inside modules address (Some (module_of m.now)) is
