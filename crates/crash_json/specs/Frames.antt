-- The frames of a thread as JSON.
use Rattle.std.specs.Prelude.{ℕ, ◌==◌, ◌++◌, Bool, false, true, List, [], ◌∷◌, codes, is_none, map}
use Rattle.std.specs.Prelude.{Option, Some, None, if◌then◌else◌, slice_get}
use Rattle.std.specs.Option.{option_and_then, option_map}
use Rattle.std.specs.Str.Lossy.{utf8_lossy}
use Rattle.json.specs.Json.{Json, boolean, string}
use Rattle.stack_walk.specs.declared.frame.FrameTrust.{FrameTrust}
use Rattle.stack_walk.specs.declared.frame.FrameTrust.TheVariants.{Context, Cfi, FramePointer, Scan}
use Rattle.stack_walk.specs.declared.frame.FrameTrust.TheVariants.{Link}
use Rattle.crash_threads.specs.declared.frames.CrashFrame.{CrashFrame}
use Rattle.crash_threads.specs.Contexts.{ContextValue}
use Rattle.crash_process.specs.Modules.{LoadedValue}
use Rattle.crash_threads.specs.Threads.{ThreadValue}
use Rattle.crash_symbols.specs.Names.{CallValue, FunctionName, NamedFrameValue, SourceValue}
use Rattle.crash_symbols.specs.Shown.{SymbolizedValue}
use Rattle.crash_json.specs.ReportValue.{ReportValue}
use Rattle.crash_json.specs.Tree.{array_of, count, hex_string, object_of, or_null}

-- the word for how a frame was found
abbrev pub trust_name : FrameTrust → List ℕ
trust_name Context = codes "context"
trust_name Cfi = codes "cfi"
trust_name FramePointer = codes "frame_pointer"
trust_name Scan = codes "scan"
trust_name Link = codes "link_register"

-- registers as members, each by its name
abbrev pub register_members : List (List ℕ × ℕ) → List (List ℕ × Json)
register_members registers = map (λ r. (r.0, hex_string r.1)) registers

-- registers or flags
abbrev pub named_json : List (List ℕ × ℕ) → Json
named_json registers = object_of (register_members registers)

-- the registers of a context
abbrev pub registers_json : ContextValue → Json
registers_json c = named_json c.registers

-- the registers for the frame of a number: those of the thread, for the first frame in
-- `crashing_thread` alone
abbrev pub shown_registers : Bool → ℕ → ThreadValue → Option ContextValue
shown_registers true number t = if number == 0 then t.context else None
shown_registers false number t = None

-- the file of the module of a place, which is the index of the module and the offset in it
abbrev pub file_at : List LoadedValue → Option (ℕ × ℕ) → Option (List ℕ)
file_at modules place =
    option_and_then (λ p. option_map (λ m. m.file) (slice_get modules p.0)) place

-- where a frame is, and how it was found
unfoldable pub frame_members : List LoadedValue → CrashFrame → List (List ℕ × Json)
frame_members modules f =
    (codes "trust", string (trust_name f.trust))
    ∷ (codes "module", or_null string (file_at modules f.module))
    ∷ (codes "module_offset", or_null hex_string (option_map (λ p. p.1) f.module))
    ∷ (codes "offset", or_null hex_string f.address)
    ∷ (codes "instruction", hex_string f.instruction)
    ∷ (codes "stack_pointer", hex_string f.stack_pointer)
    ∷ (codes "frame_pointer", or_null hex_string f.frame_pointer)
    ∷ []

-- ---- names

-- a text that Linux wrote, where there is one: what isn't UTF-8 is U+FFFD
abbrev pub lossy_json : Option (List ℕ) → Json
lossy_json text = or_null string (option_map utf8_lossy text)

-- a function and the offset of a frame in it
abbrev pub function_members : Option FunctionName → List (List ℕ × Json)
function_members f = (codes "function", lossy_json (option_map (λ f. f.name) f))
    ∷ (codes "function_offset", or_null hex_string (option_map (λ f. f.offset) f)) ∷ []

-- a source line
abbrev pub source_members : Option SourceValue → List (List ℕ × Json)
source_members source = (codes "file", lossy_json (option_and_then (λ s. s.file) source))
    ∷ (codes "line", or_null count (option_map (λ s. s.line) source)) ∷ []

-- an inlined call
unfoldable pub inline_json : CallValue → Json
inline_json c = object_of ((codes "function", lossy_json c.function) ∷ source_members c.source)

-- the names of a frame, where symbols are known
abbrev pub name_members : Option SymbolizedValue → NamedFrameValue → List (List ℕ × Json)
name_members (Some s) f = function_members f.function ++ (source_members f.line
    ++ ((codes "inlines", array_of inline_json f.inlines)
    ∷ (codes "missing_symbols", boolean (is_none f.function))
    ∷ []))
name_members None f = []

-- the frame of a number of a thread, with registers and with names, where these are shown
abbrev pub frame_json : ReportValue → Bool → ThreadValue → ℕ → NamedFrameValue → Json
frame_json r is_crashing t number f = object_of (
    (codes "frame", count number)
    ∷ (frame_members r.crash.modules.loaded f.frame
    ++ ((codes "registers", or_null registers_json (shown_registers is_crashing number t))
    ∷ name_members r.symbols f)))
