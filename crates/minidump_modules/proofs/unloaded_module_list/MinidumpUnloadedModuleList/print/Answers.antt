-- The text of the values is that of the modules.
use Rattle.std.specs.Prelude.{codes}
use Rattle.minidump_format.proofs.NumberedLemmas.{numbered_list_map}
use Rattle.minidump_modules.specs.UnloadedModule.{unloaded_of}
use Rattle.minidump_modules.specs.ModuleText.{unloaded_text}
use Rattle.minidump_modules.proofs.unloaded_module_list.MinidumpUnloadedModuleList.print.Goals as goal

pub returns : goal.returns
returns g c =
    rw (
      numbered_list_map (codes "MinidumpUnloadedModuleList\n  module_count = ") (codes "module") unloaded_text unloaded_of c.args.self.now,
      ← c.iter.ensures,
      ← c.as_slice.ensures.value,
    ) c.print_numbered.ensures
