-- What a symbol file says of a frame: its function, its source line, and the calls that the
-- compiler put in place there.
use Rattle.std.specs.Prelude.{ℕ, ◌-◌, List, [], ◌∷◌, map, reverse, Option, Some, None, is_some}
use Rattle.std.specs.List.{filter_map, range_with_len, take_while}
use Rattle.std.specs.Option.{option_and_then, option_map, option_map_or}
use Rattle.breakpad_symbols.specs.declared.inline.InlineCall.{InlineCall}
use Rattle.breakpad_symbols.specs.Function.{FunctionValue, line_in}
use Rattle.breakpad_symbols.specs.Inline.{inlines_in}
use Rattle.breakpad_symbols.specs.Numbered.{first_numbered}
use Rattle.breakpad_symbols.specs.SymbolFile.{SymbolsValue, file_name, origin_name, public_at}
use Rattle.crash_threads.specs.declared.frames.CrashFrame.{CrashFrame}
use Rattle.symbol_walk.specs.Symbols.{function_at, symbols_of_module}

-- the name of a function, and the offset of an address from the first one of the function
pub record FunctionName : Type 0 where
  pub name : List ℕ
  pub offset : ℕ

-- a source line, with the name of its file where that is known
pub record SourceValue : Type 0 where
  pub file : Option (List ℕ)
  pub line : ℕ

-- a call that the compiler put in place: the function that was called, and the source line in that
pub record CallValue : Type 0 where
  pub function : Option (List ℕ)
  pub source : Option SourceValue

-- a frame with the function that it is in, the source line in that, and the calls put in place
-- there, the innermost first
pub record NamedFrameValue : Type 0 where
  pub frame : CrashFrame
  pub function : Option FunctionName
  pub line : Option SourceValue
  pub inlines : List CallValue

-- ---- functions

-- the name of the public symbol of an offset
abbrev pub public_name : SymbolsValue → ℕ → Option FunctionName
public_name s offset =
    option_map (λ p. record { name = p.name; offset = offset - p.address }) (public_at s offset)

-- ---- source lines and calls put in place

-- the source line of the line record of an offset in a function
abbrev pub line_at : SymbolsValue → FunctionValue → ℕ → Option SourceValue
line_at s f offset =
    option_map (λ r. record { file = file_name s.files r.file; line = r.line }) (line_in f offset)

-- that of a call put in place: without a file where its number isn't known
abbrev pub source_of_call : SymbolsValue → InlineCall → SourceValue
source_of_call s call = record {
  file = option_and_then (file_name s.files) call.file;
  line = call.line;
}

-- the calls of the depths 0, 1 and so on, up to the first that none has, at most 1,000 of them; of
-- two of one depth the first
unfoldable pub by_depth : List InlineCall → List InlineCall
by_depth calls = filter_map (λ call. call) (take_while is_some
    (map (λ depth. first_numbered (λ c. c.depth) depth calls) (range_with_len 0 1000)))

-- the calls put in place at an offset of a function
abbrev pub calls_in : FunctionValue → ℕ → List InlineCall
calls_in f offset = by_depth (inlines_in f offset)

-- calls, the innermost first: its function is at this source line, and the function of each next one
-- at the line of the call in it
unfoldable pub inlines_by : SymbolsValue → Option SourceValue → List InlineCall → List CallValue
inlines_by s line [] = []
inlines_by s line (call ∷ outer) =
    record { function = origin_name s.origins call.origin; source = line }
    ∷ inlines_by s (Some (source_of_call s call)) outer

-- the source line in the function that has such calls: that of the outermost one, and without calls
-- this line
unfoldable pub line_around : SymbolsValue → Option SourceValue → List InlineCall → Option SourceValue
line_around s line [] = line
line_around s line (call ∷ outer) = line_around s (Some (source_of_call s call)) outer

-- ---- names

-- a frame without names
abbrev pub unnamed : CrashFrame → NamedFrameValue
unnamed f = record { frame = f; function = None; line = None; inlines = [] }

-- a frame at an offset in a function: the line record is that of the innermost call
abbrev pub named_by : SymbolsValue → FunctionValue → CrashFrame → ℕ → NamedFrameValue
named_by s function f offset =
    let calls = reverse (calls_in function offset) in record {
      frame = f;
      function = Some (record { name = function.name; offset = offset - function.address });
      line = line_around s (line_at s function offset) calls;
      inlines = inlines_by s (line_at s function offset) calls;
    }

-- a frame at an offset in a module with these symbols: the name of a public symbol alone, where no
-- function has the offset
abbrev pub named_at : SymbolsValue → CrashFrame → ℕ → NamedFrameValue
named_at s f offset = option_map_or (λ function. named_by s function f offset) (function_at s offset)
    (record { frame = f; function = public_name s offset; line = None; inlines = [] })

-- a frame with its names, by the symbols of the modules
unfoldable pub named_in : List (Option SymbolsValue) → CrashFrame → NamedFrameValue
named_in files f = option_map_or (λ place. option_map_or (λ s. named_at s f place.1)
    (symbols_of_module files place.0) (unnamed f)) f.«module» (unnamed f)
