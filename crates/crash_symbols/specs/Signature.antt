-- The signature of a crash: why it crashed, and in which functions. Crashes of one kind share it.
use Rattle.std.specs.Prelude.{ℕ, ◌++◌, List, [], ◌∷◌, codes, filter_map, flat_map, slice_get, take}
use Rattle.std.specs.Prelude.{Option, Some, None}
use Rattle.std.specs.List.{concat}
use Rattle.std.specs.Option.{option_and_then, option_map, option_map_or}
use Rattle.std.specs.Str.Lossy.{utf8_lossy}
use Rattle.minidump.specs.Below.Bytes.Piece.{hex}
use Rattle.breakpad_symbols.specs.SymbolFile.{SymbolsValue}
use Rattle.crash_threads.specs.declared.frames.CrashFrame.{CrashFrame}
use Rattle.crash_threads.specs.Cause.{counted_exception}
use Rattle.crash_process.specs.Modules.{LoadedValue}
use Rattle.crash_threads.specs.Threads.{crashed_thread}
use Rattle.crash.specs.Crash.{CrashValue}
use Rattle.crash_symbols.specs.Names.{FunctionName, named_in}
use Rattle.crash_symbols.specs.Shown.{SymbolizedValue, known_in, shown_in}
use Rattle.crash_symbols.specs.Symbols.{files_of}

-- the words for a frame: the name of its function, or where that isn't known the file of its module
-- with the offset in it
abbrev pub mark_text : Option FunctionName → List ℕ → ℕ → List ℕ
mark_text (Some f) file offset = utf8_lossy f.name
mark_text None file offset = concat (file ∷ codes "+" ∷ hex offset ∷ [])

-- the same by the modules and their symbols, for a frame that is in one
abbrev pub mark_of : List LoadedValue → List (Option SymbolsValue) → CrashFrame → Option (List ℕ)
mark_of modules files f = option_and_then (λ p. option_map
    (λ m. mark_text (named_in files f).function m.file p.1) (slice_get modules p.0)) f.«module»

-- the words for the first three frames that are in a module
unfoldable pub marks_in : List LoadedValue → List (Option SymbolsValue) → List CrashFrame → List (List ℕ)
marks_in modules files frames = take 3 (filter_map (mark_of modules files) frames)

-- the frames of the thread that crashed, without the candidates
abbrev pub crashed_frames : Option SymbolizedValue → CrashValue → List CrashFrame
crashed_frames symbols c = option_map_or (λ w. w.frames)
    (option_and_then (λ p. shown_in symbols p.0 p.1) (crashed_thread c.threads)) []

-- the words for those of them
abbrev pub crashed_marks : Option SymbolizedValue → CrashValue → List (List ℕ)
crashed_marks symbols c =
    marks_in c.modules.loaded (files_of (known_in symbols)) (crashed_frames symbols c)

-- the reason, where there is one, and then these texts
abbrev pub with_reason : Option (List ℕ) → List (List ℕ) → List (List ℕ)
with_reason (Some reason) marks = reason ∷ marks
with_reason None marks = marks

-- texts with ` | ` between them, where there are any
abbrev pub joined : List (List ℕ) → Option (List ℕ)
joined [] = None
joined (text ∷ texts) = Some (text ++ flat_map (λ t. codes " | " ++ t) texts)

-- the signature of a crash: its reason, and the first three frames of the thread that crashed that
-- are in a module
unfoldable pub signature_in : Option SymbolizedValue → CrashValue → Option (List ℕ)
signature_in symbols c =
    joined (with_reason (option_and_then (λ e. e.reason) (counted_exception c.cause))
    (crashed_marks symbols c))
