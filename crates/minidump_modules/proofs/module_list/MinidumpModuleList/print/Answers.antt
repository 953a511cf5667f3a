-- The text of the values is that of the modules.
use Rattle.std.specs.Prelude.{codes}
use Rattle.minidump_format.proofs.NumberedLemmas.{numbered_list_map}
use Rattle.minidump_modules.specs.Module.{module_of}
use Rattle.minidump_modules.specs.ModuleText.{module_text}
use Rattle.minidump_modules.proofs.module_list.MinidumpModuleList.print.Goals as goal

pub returns : goal.returns
returns g c =
    rw (
      c.deref.ensures,
      ← c.as_slice.ensures,
      numbered_list_map (codes "MinidumpModuleList\n  module_count = ") (codes "module") module_text module_of c.as_slice.result.now,
    ) c.print_numbered.ensures
