-- The modules of a minidump.
use Rattle.std.specs.Prelude.{List, Option}
use Rattle.std.specs.Option.{option_map}
use Rattle.std.specs.Result.{result_ok}
use Rattle.minidump_modules.specs.Module.{ModuleValue}
use Rattle.minidump.specs.Dump.{Dump, stream_of}
use Rattle.minidump.specs.Promise.{module_list_stream}

-- the modules of a dump, where its list of modules can be read; unloaded modules play no part
abbrev pub modules_of_dump : Dump → Option (List ModuleValue)
modules_of_dump d =
    option_map (λ listed. listed.modules) (result_ok (stream_of module_list_stream d))
