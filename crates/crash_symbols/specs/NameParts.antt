-- The value of the structs that hold names.
use Rattle.std.specs.Prelude.{map}
use Rattle.std.specs.Option.{option_map}
use Rattle.minidump_bytes.specs.LinuxOsStr.{text_of}
use Rattle.crash_symbols.specs.declared.names.FrameFunction.{FrameFunction}
use Rattle.crash_symbols.specs.declared.names.InlinedCall.{InlinedCall}
use Rattle.crash_symbols.specs.declared.names.NamedFrame.{NamedFrame}
use Rattle.crash_symbols.specs.declared.names.SourceLine.{SourceLine}
use Rattle.crash_symbols.specs.Names.{CallValue, FunctionName, NamedFrameValue, SourceValue}

abbrev pub function_of : FrameFunction → FunctionName
function_of f = record { name = text_of f.name; offset = f.offset }

abbrev pub source_of : SourceLine → SourceValue
source_of s = record { file = option_map text_of s.file; line = s.line }

abbrev pub call_of : InlinedCall → CallValue
call_of c = record { function = option_map text_of c.function; source = option_map source_of c.source }

abbrev pub named_of : NamedFrame → NamedFrameValue
named_of f = record {
  frame = f.frame;
  function = option_map function_of f.function;
  line = option_map source_of f.line;
  inlines = map call_of f.inlines.items;
}
